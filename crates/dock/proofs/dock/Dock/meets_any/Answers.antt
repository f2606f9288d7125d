-- `dock::dock::Dock::meets_any` meets its contract: after the loop it is known whether the vector meets itself or one of the eight. Assumes nothing.
use mathlib.Core.Path.{◌≡◌, ◌∙◌}
use borrow.Author.Rules.{rules}
use Rattle.dock.specs.Dock.{meets_at, meets_itself}
use Rattle.dock.specs.SlotLaws.{met_none, met_more, met_all}
use Rattle.dock.proofs.dock.Dock.meets_any.Goals as goal

pub loop-i-init : goal.loop-i-init
loop-i-init c = let a = c.args in let d = a.self.now in c.meets_itself-met.ensures ∙ met_none (meets_itself a.job a.v) (meets_at d.states d.vectors a.job a.v)

pub loop-i-preserved : goal.loop-i-preserved
unfolding meets_at
loop-i-preserved c = let a = c.args in let d = a.self.now in let l = c.loop-i in met_more _ _ l.i (meets_itself a.job a.v) (meets_at d.states d.vectors a.job a.v) l.invariant c.meets-met.ensures

pub returns : goal.returns
returns c = let a = c.args in let d = a.self.now in let e : c.loop-i.i ≡ 8 = search rules in met_all d.states d.vectors a.job a.v _ c.loop-i.i e c.loop-i.invariant
