-- `vectors::vector::IoVector::glue` meets its contract: the last segment made longer, or one more where there is room. Assumes nothing.
use mathlib.Core.Path.{◌≡◌, sym, ◌∙◌}
use mathlib.Core.Bool.{true, false}
use Rattle.vectors.specs.Vectors.{segments_of}
use Rattle.vectors.specs.Joining.{last_touches}
use Rattle.vectors.proofs.Gluing.{glue_touching, glue_full, glue_room, glue_added}
use Rattle.vectors.proofs.vector.IoVector.glue.Goals as goal
use Rattle.vectors.proofs.vector.IoVector.glue.Goals.{Else-last_touches, Then-last_touches}

-- what the test has shown
touching : (c : Then-last_touches) → last_touches (segments_of c.args.self.now) c.args.segment ≡ true
touching c = sym c.last_touches.ensures ∙ c.if-last_touches.true

apart : (c : Else-last_touches) → last_touches (segments_of c.args.self.now) c.args.segment ≡ false
apart c = sym c.last_touches.ensures ∙ c.if-last_touches.false

pub last_touches-requires : goal.last_touches-requires
last_touches-requires c = c.requires.few

pub lengthen-requires : goal.lengthen-requires
lengthen-requires c = record { asked = c.requires; touching = touching (goal.at.lengthen-requires c).Then-last_touches }

pub returns-then-last_touches : goal.returns-then-last_touches
returns-then-last_touches c = glue_touching c.args.self.now c.args.segment c.requires (touching (goal.at.returns-then-last_touches c).Then-last_touches) _ c.lengthen.ensures

pub returns-then-self-eq-MAX_COUNT : goal.returns-then-self-eq-MAX_COUNT
returns-then-self-eq-MAX_COUNT c = glue_full c.args.self.now c.args.segment c.requires (apart (goal.at.returns-then-self-eq-MAX_COUNT c).Else-last_touches) c.if-self-eq-MAX_COUNT.true

pub put_last-requires : goal.put_last-requires
put_last-requires c = glue_room c.args.self.now c.args.segment c.requires (apart (goal.at.put_last-requires c).Else-last_touches) c.if-self-eq-MAX_COUNT.false

pub returns : goal.returns
returns c = glue_added c.args.self.now c.args.segment c.requires (apart (goal.at.returns c).Else-last_touches) c.if-self-eq-MAX_COUNT.false _ c.put_last.ensures
