-- Blockers as enter and leave can make them from none, and what holds of them.
-- `Reached b rank clock`: rank p says when the blocker of slot p was entered, clock is past all ranks.
use Rattle.std.specs.Prelude.{◌≡◌, true, ◌&&◌, ℕ, ◌<◌, length}
use Rattle.blockers.specs.declared.Blockers.{Blockers}
use Rattle.blockers.specs.Blockers.{overlaps, is_entered, conflict, blocker_at, has_noted}

-- the blockers of p and q overlap, and are not both weak
unfoldable pub Meet : Blockers → ℕ → ℕ → Type 0
Meet b p q = (conflict (blocker_at b p).kind (blocker_at b q).kind && overlaps (blocker_at b q).range (blocker_at b p).range) ≡ true

abbrev pub Entered : Blockers → ℕ → Type 0
Entered b p = is_entered (blocker_at b p) ≡ true

pub record Reached (b : Blockers) (rank : ℕ → ℕ) (clock : ℕ) : Type 0 where
  pub slots : length b.slots ≡ 8
  pub notes : (p : ℕ) → p < 8 → length (blocker_at b p).noted ≡ 8
  -- every entered blocker was entered before now, and no two at once
  pub past : (p : ℕ) → Entered b p → rank p < clock
  pub apart : (p q : ℕ) → Entered b p → Entered b q → rank p ≡ rank q → p ≡ q
  -- p has noted q exactly where q was entered earlier, is still there, and meets p
  pub noted : (p q : ℕ) → p < 8 → q < 8 → has_noted b p q ≡ true → (Entered b p) × (Entered b q) × (rank q < rank p) × (Meet b p q)
  pub notes_all : (p q : ℕ) → p < 8 → q < 8 → Entered b p → Entered b q → rank q < rank p → Meet b p q → has_noted b p q ≡ true
