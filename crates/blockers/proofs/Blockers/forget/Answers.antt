-- `blockers::Blockers::forget` meets its contract: the array's map is the list's. Assumes nothing.
use Rattle.std.proofs.Common.{rules, ◌≡◌, refl}
use Rattle.blockers.specs.Blockers.{forgetting, nowhere}
use Rattle.blockers.proofs.Mapped.{mapped}
use Rattle.blockers.proofs.Slots.{eight}
use Rattle.blockers.proofs.Blockers.forget.Goals as goal

pub returns : goal.returns
returns c = mapped _ (λ p. p.0.now ≡ c.args.slot) (forgetting c.args.slot) (λ p q x y e r. (search rules, search rules)) _ _ _ 8 nowhere refl c.map.ensures.items (eight c.args.self _ c.well_formed.0)
