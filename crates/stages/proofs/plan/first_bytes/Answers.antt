-- `stages::plan::first_bytes` meets its contract: by what it requires, the end lies on the store. Assumes nothing.
use Rattle.std.specs.Prelude.{Ok}
use mathlib.Core.Path.{◌≡◌, ap, ◌∙◌}
use Prim.Native.Nat.{ℕ, ◌+◌}
use native.Mathlib.Omega.{arith}
use Rattle.arithmetic.specs.Offsets.{store_at, on_store_at}
use Rattle.arithmetic.specs.RoundingLaws.{fits_true}
use Rattle.arithmetic.specs.declared.offsets.StoreOffset.{StoreOffset}
use Rattle.stages.proofs.plan.first_bytes.Goals as goal
use Rattle.stages.proofs.plan.first_bytes.Goals.{After-on_store}

on_store_is : (c : After-on_store) → let a = c.args in c.on_store.result ≡ Ok (store_at (a.s.start.0 + a.end.0))
on_store_is c = c.on_store.ensures ∙ on_store_at _ _ (fits_true _ c.requires)

pub returns-in_default : goal.returns-in_default
returns-in_default c = let e = on_store_is (goal.at.returns-in_default c).After-on_store in let z : ◌≡◌ {A = ℕ} 0 1 = cc in absurd (omega arith)

pub returns : goal.returns
returns c = let a = c.args in
    let e = on_store_is (goal.at.returns c).After-on_store in
    let g : c.in-Ok.end ≡ store_at (a.s.start.0 + a.end.0) = cc in
    ap (λ (z : StoreOffset). record { start = a.s.start; end = z }) g
