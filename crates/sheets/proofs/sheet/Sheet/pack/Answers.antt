-- `sheets::sheet::Sheet::pack` meets its contract: in every turn the ranges before `at` are packed. Assumes nothing.
use mathlib.Core.Path.{◌≡◌, refl, sym, ap, ◌∙◌}
use mathlib.Core.List.{[], ◌∷◌}
use Prim.Native.Nat.{ℕ, ◌-◌}
use Rattle.std.specs.Option.{is_some}
use Rattle.arithmetic.specs.Rows.{put}
use Rattle.sheets.specs.Sheets.{writes_of}
use Rattle.sheets.proofs.Sweep.{first_of, place_of, Taken, packing_none, packing_past, its_room, its_most, its_lies}
use Rattle.sheets.proofs.Sweep.{packing_new, packing_on, its_row, packing_over, packing_all, count_most}
use borrow.Author.Rules.{rules}
use Rattle.sheets.proofs.sheet.Sheet.pack.Goals as goal
use Rattle.sheets.proofs.sheet.Sheet.pack.Goals.{Joined-open, in-Some-open, in-None}

-- whether the last range goes on or a new one begins, the stretch is taken into it, and it ends with the stretch
taken : (c : Joined-open)
    → let r = c.match-open.range in
    let end = c.look-owner.result.end in
    Taken (writes_of c.args.self.now.writes.now) c.match-open.count r.offset.0 r.start c.loop-at.at end × (r.length ≡ end - r.offset.0)
taken c =
    let p = c.loop-at.invariant in
    let o = c.look-owner.ensures in
    let i = c.in-Some.is in
    elim c.match-open.branch [
      | in-Some-open w ↦
          let is = sym w.in-Some-open.is in
          rw w.range-is (packing_on p _ o _ i (sym (ap is_some is)) w.count-is (ap first_of is) (ap place_of is), refl)
      | in-None w ↦ rw w.range-is (packing_new p _ o _ i (ap is_some w.in-None.is) w.count-is refl refl, refl)
    ]

pub loop-at-init : goal.loop-at-init
loop-at-init c = packing_none _ _ _ _ c.args.self.now.fits c.requires

pub carry-requires : goal.carry-requires
carry-requires c = let p = c.loop-at.invariant in
    let o = c.look-owner.ensures in
    (its_lies p _ o _ c.in-Some.is, its_room p _ o _ c.in-Some.is)

pub overflow_add-count : goal.overflow_add-count
overflow_add-count c = search (rules, count_most c.loop-at.invariant)

pub overflow_add-filled : goal.overflow_add-filled
overflow_add-filled c = search (rules, its_most c.loop-at.invariant _ c.look-owner.ensures _ c.in-Some.is)

pub put_write-requires : goal.put_write-requires
put_write-requires c =
    its_row c.loop-at.invariant _ c.look-owner.ensures _ c.in-Some.is (taken (goal.at.put_write-requires c).Joined-open).0

pub loop-at-preserved-after-open : goal.loop-at-preserved-after-open
loop-at-preserved-after-open c =
    let r = c.match-open.range in
    let t = taken (goal.at.loop-at-preserved-after-open c).Joined-open in
    packing_over c.loop-at.invariant _ c.look-owner.ensures _ c.in-Some.is t.0 _ _ c.carry.ensures
    (c.put_write.ensures ∙ ap (λ (n : ℕ). put 3 (c.match-open.count - 1) c.loop-at.joined (r.offset.0 ∷ r.start ∷ n ∷ [])) t.1)

pub loop-at-preserved : goal.loop-at-preserved
loop-at-preserved c = packing_past c.loop-at.invariant _ c.look-owner.ensures c.in_default.is

pub returns : goal.returns
returns c = packing_all c.loop-at.invariant (search rules)
