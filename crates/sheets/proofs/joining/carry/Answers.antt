-- `sheets::joining::carry` meets its contract: its bytes lie in the data and go where the output has room. Assumes nothing.
use native.Mathlib.Omega.{arith}
use mathlib.Core.Path.{◌≡◌}
use mathlib.Core.List.{List}
use Prim.Native.Nat.{ℕ, ◌+◌, ◌-◌, ◌≤◌}
use lib.ListN.{length, take, drop, length-drop}
use lib.Seq.{length-take-le}
use borrow.Rule.Slice.PartMut.{put_mid}
use Rattle.vectors.specs.Vectors.{put}
use Rattle.sheets.proofs.joining.carry.Goals as goal

-- n bytes of d, put in the place of as many
carried : (s d : List ℕ) (a n f : ℕ) (ys : List ℕ) → f + n ≤ length d → ys ≡ take (f + n - f) (drop f d)
    → put_mid a (a + n - a) s ys ≡ put s a (take n (drop f d))
unfolding put
carried s d a n f ys h e =
    let k : f + n - f ≡ n = omega arith in
    let m : a + n - a ≡ n = omega arith in
    let l : length (take n (drop f d)) ≡ n = length-take-le n (drop f d) (rw length-drop (omega (arith, h))) in
    rw (m, e, k, l)

pub returns : goal.returns
returns c =
    let a = c.args in
    let p = c.requires.0 in
    carried a.output.now a.«data».now a.filled (a.end - a.at) (a.w.start + (a.at - a.w.offset.0)) _
    (omega (arith, p.from, p.ahead, p.to, p.inside)) c.copy_from_slice.ensures.after
