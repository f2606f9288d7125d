-- `blockers::Blockers::notes` meets its contract: the array's map is the list's. Assumes nothing.
use Rattle.std.proofs.Common.{rules, ◌≡◌, refl}
use Rattle.blockers.specs.Blockers.{notes, notes_of, nowhere}
use Rattle.blockers.proofs.Mapped.{mapped}
use Rattle.blockers.proofs.Slots.{eight}
use Rattle.blockers.proofs.Blockers.notes.Goals as goal

pub returns : goal.returns
unfolding notes_of
returns c = mapped _ (λ p. (p.0.now ≡ c.args.kind) × (p.1.now ≡ c.args.range)) (notes c.args.kind c.args.range) (λ p q x y e r. ((search rules, search rules), search rules)) _ _ _ 8 nowhere (refl, refl) c.map.ensures.items (eight c.args.self _ c.well_formed.0)
