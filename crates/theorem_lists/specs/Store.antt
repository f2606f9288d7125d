-- The store's act on one request, by document 01: "On the real store the same rules and choices hold for a request's own bytes and range,
-- padding included".
use Rattle.std.specs.Prelude.{Bool, true, List, [], ◌∷◌, ◌++◌, ℕ, zero, suc, ◌+◌, eqb, take, drop, Result, Ok, Err}
use Rattle.arithmetic.specs.Rounding.{pick}
use Rattle.arithmetic.specs.Offsets.{range_of}
use Rattle.arithmetic.specs.Content.{Bytes, changed, window, laid_at}
use Rattle.arithmetic.specs.declared.offsets.Range.{Range}
use Rattle.vectors.specs.Vectors.{put}
use Rattle.stages.specs.declared.state.Kind.{Kind}
use Rattle.stages.specs.declared.state.Kind.TheVariants.{Read, Write, Zero, AllocatedZero, Discard}
use Rattle.stages.specs.declared.state.Request.{Request}
use Rattle.dock.specs.Next.{piece_of, bytes_at}
use Rattle.dock.specs.declared.dock.Dock.{Dock}
use Rattle.dock.specs.declared.next.Piece.{Piece}
use Rattle.dock.specs.declared.next.Piece.TheVariants.{InData, InScratch}
use Rattle.arithmetic.specs.declared.refusals.Refusal.{Refusal}

-- "as the store chose": which bytes of a failing request are new; what a discard, or a failing read, leaves. By the byte's offset on the
-- store.
pub record Choice : Type 0 where
  pub is_new : ℕ → Bool
  pub left : Bytes

-- "code 0: [..] Other codes: each byte of that range is old or new, as the store chose"
abbrev pub becomes_new : ℕ → Choice → ℕ → Bool
becomes_new code c x = pick (eqb code 0) true (c.is_new x)

-- ---- a request's own bytes

-- pieces i, i + 1, .., k of them
unfoldable pub pieces_from : Dock → ℕ → ℕ → ℕ → ℕ → ℕ → List (Result Piece Refusal)
pieces_from d p m n i zero = []
pieces_from d p m n i (suc k) = piece_of d p i m n ∷ pieces_from d p m n (suc i) k

-- the bytes of pieces, joined in order: what a write hands to the store
unfoldable pub gathered : List (Result Piece Refusal) → List ℕ → List ℕ → List ℕ
gathered [] memory scratch = []
gathered (q ∷ qs) memory scratch = bytes_at q memory scratch ++ gathered qs memory scratch

-- data and scratch
pub record Buffered : Type 0 where
  pub memory : List ℕ
  pub scratch : List ℕ

-- bytes into the pieces in order: "each area is filled or used up before the next"
unfoldable pub landed : List (Result Piece Refusal) → List ℕ → List ℕ → List ℕ → Buffered
landed [] bs memory scratch = record { memory = memory; scratch = scratch }
landed ((Ok (InData g)) ∷ qs) bs memory scratch = landed qs (drop g.length bs) (put memory g.start (take g.length bs)) scratch
landed ((Ok (InScratch g)) ∷ qs) bs memory scratch = landed qs (drop g.length bs) memory (put scratch g.start (take g.length bs))
landed (Err r ∷ qs) bs memory scratch = landed qs bs memory scratch

-- ---- the act

abbrev pub range_asked : Request → Range
range_asked q = range_of q.offset.0 (q.offset.0 + q.length)

-- what the store holds after it; `payload` is what a write hands to it
abbrev pub store_after : Kind → Range → ℕ → Choice → List ℕ → Bytes → Bytes
store_after Read r code c payload s = s
store_after Write r code c payload s = changed s r (becomes_new code c) (laid_at r.start.0 payload)
store_after Zero r code c payload s = changed s r (becomes_new code c) (λ x. 0)
store_after AllocatedZero r code c payload s = changed s r (becomes_new code c) (λ x. 0)
store_after Discard r code c payload s = changed s r (λ x. true) c.left

-- what a read leaves in its pieces: with code 0 the store's bytes, otherwise anything
abbrev pub yields : ℕ → Choice → Bytes → Bytes
yields code c s = pick (eqb code 0) s c.left

abbrev pub fetched : Kind → Request → List (Result Piece Refusal) → ℕ → Choice → Bytes → List ℕ → List ℕ → Buffered
fetched Read q ps code c s memory scratch = landed ps (window (yields code c s) q.offset.0 q.length) memory scratch
fetched Write q ps code c s memory scratch = record { memory = memory; scratch = scratch }
fetched Zero q ps code c s memory scratch = record { memory = memory; scratch = scratch }
fetched AllocatedZero q ps code c s memory scratch = record { memory = memory; scratch = scratch }
fetched Discard q ps code c s memory scratch = record { memory = memory; scratch = scratch }
