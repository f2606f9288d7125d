-- The copies between the data and a share of the scratch, and the steps of begin and tell over them: each branch of the code gives what the definition says. Assumes nothing.
use Rattle.std.specs.Prelude.{Result, Ok}
use mathlib.Core.Path.{◌≡◌, refl, sym, ◌∙◌}
use mathlib.Core.Bool.{Bool, true, false, ◌&&◌, ◌||◌, not}
use mathlib.Core.List.{List}
use Prim.Native.Nat.{ℕ, ◌+◌, ◌-◌, ◌*◌, ◌≤◌, ◌<◌}
use native.Mathlib.Omega.{arith}
use lib.Dec.{eqb, leb}
use lib.ListN.{length, take, drop, replicate, length-replicate, length-drop}
use lib.Seq.{length-take-le}
use borrow.Author.Tests.{eqb-true, leb-true}
use borrow.Rule.Slice.PartMut.{put_mid, put_same}
use Rattle.arithmetic.specs.Rounding.{pick}
use Rattle.arithmetic.specs.SettingsLaws.{and_left, and_right}
use Rattle.vectors.specs.Vectors.{put, bytes_of, segments_of, copies, is_valid, outcome_of}
use Rattle.vectors.specs.ByteLaws.{bytes_length}
use Rattle.vectors.specs.SegmentLaws.{valid}
use Rattle.vectors.specs.declared.vector.IoVector.{IoVector}
use Rattle.stages.specs.Stages.{size_of, uses_bounce, lies_in, is_sound, second_at}
use Rattle.stages.specs.declared.state.Job.{Job}
use Rattle.stages.specs.declared.state.State.{State}
use Rattle.dock.proofs.SlotsOf.{share_in}
use Rattle.dock.specs.Begin.{fills, is_write_job, source_of, source_fits, merged_at, InShare}
use Rattle.arithmetic.specs.declared.refusals.Refusal.{Refusal}

-- a lent part put back
back : (l : List ℕ) (a n : ℕ) (ys : List ℕ) → length ys ≡ n → put_mid a (a + n - a) l ys ≡ put l a ys
unfolding put
back l a n ys e = let k : a + n - a ≡ length ys = omega arith in rw k

unchanged : (l : List ℕ) (a n : ℕ) → put_mid a (a + n - a) l (take n (drop a l)) ≡ l
unchanged l a n = let k : a + n - a ≡ n = omega arith in rw k (put_same a n l)

part_long : (l : List ℕ) (a n : ℕ) → a + n ≤ length l → length (take n (drop a l)) ≡ n
part_long l a n h = length-take-le n (drop a l) (omega (arith, length-drop a l))

-- the bytes of a vector that is copied are as many as asked
copied_long : (memory : List ℕ) (v : IoVector) (n : ℕ) → copies memory v n ≡ true → length (bytes_of memory (segments_of v)) ≡ n
unfolding copies
copied_long memory v n e =
    let w = valid (length memory) v (and_left (is_valid (length memory) v) (eqb n v.total) e) in
    bytes_length memory (segments_of v) w.fit.lie ∙ sym w.total ∙ sym (eqb-true n v.total (and_right (is_valid (length memory) v) (eqb n v.total) e))

module _ (a n : ℕ) (j : Job) (v : IoVector) (memory scratch : List ℕ) (h : a + n ≤ length scratch) where
  -- a write's vector is copied in, or refused
  pub merged_write : is_write_job j ≡ true → (r : Result (Unit {0}) Refusal) (ys : List ℕ)
      → r ≡ outcome_of (copies memory v (length (take (a + n - a) (drop a scratch))))
      → ys ≡ pick (copies memory v (length (take (a + n - a) (drop a scratch)))) (bytes_of memory (segments_of v)) (take (a + n - a) (drop a scratch))
      → fills r (put_mid a (a + n - a) scratch ys) ≡ merged_at a n j v memory scratch
  unfolding merged_at source_fits source_of
  merged_write w r ys p q =
      let k : a + n - a ≡ n = omega arith in
      let long = part_long scratch a n h in
      let p1 : r ≡ outcome_of (copies memory v (length (take n (drop a scratch)))) = rw k at p in
      let q1 : ys ≡ pick (copies memory v (length (take n (drop a scratch)))) (bytes_of memory (segments_of v)) (take n (drop a scratch)) = rw k at q in
      let p2 : r ≡ outcome_of (copies memory v n) = rw long at p1 in
      let q2 : ys ≡ pick (copies memory v n) (bytes_of memory (segments_of v)) (take n (drop a scratch)) = rw long at q1 in
      go (copies memory v n) refl p2 q2
    where
      go : (t : Bool) → copies memory v n ≡ t → r ≡ outcome_of t → ys ≡ pick t (bytes_of memory (segments_of v)) (take n (drop a scratch))
          → fills r (put_mid a (a + n - a) scratch ys) ≡ merged_at a n j v memory scratch
      go true c p q = rw (p, q, back scratch a n (bytes_of memory (segments_of v)) (copied_long memory v n c)) (simp (w, c))
      go false c p q = rw (p, q, unchanged scratch a n) (simp (w, c))

  -- zeroes
  pub merged_zeroes : is_write_job j ≡ false → (ys : List ℕ) → ys ≡ replicate (length (take (a + n - a) (drop a scratch))) 0
      → fills (Ok tt) (put_mid a (a + n - a) scratch ys) ≡ merged_at a n j v memory scratch
  unfolding merged_at source_fits source_of
  merged_zeroes w ys p =
      let k : a + n - a ≡ n = omega arith in
      let p1 : ys ≡ replicate (length (take n (drop a scratch))) 0 = rw k at p in
      let p2 : ys ≡ replicate n 0 = rw (part_long scratch a n h) at p1 in
      rw (p2, back scratch a n (replicate n 0) (length-replicate n 0)) (simp w)

-- ---- a job's bytes lie in its share

uses : (b : Bool) (t : Bool) → (not b || t) ≡ true → b ≡ true → t ≡ true
uses true t e p = e
uses false t e p = let z : ◌≡◌ {A = Bool} false true = p in cc

-- the asked bytes of a sound state lie in the share of slot p
pub in_share : (p b : ℕ) (x : State) (n : ℕ) → p < 8 → is_sound b x ≡ true → 8 * b ≤ n → InShare (p * b) x n
unfolding is_sound lies_in
in_share p b x n h e k u =
    let l = uses (uses_bounce x.phase) (lies_in b x.stage) e u in
    let g = x.stage in
    let t1 = leb (g.head.0 + size_of g.asked) b in
    let t2 = leb (size_of g.request) b in
    let t3 = leb (size_of g.first) b in
    let t4 = leb (second_at g + size_of g.second) b in
    let m = leb-true (g.head.0 + size_of g.asked) b (and_left t1 t2 (and_left (t1 && t2) t3 (and_left (t1 && t2 && t3) t4 l))) in
    omega (arith, m, share_in p b h)
