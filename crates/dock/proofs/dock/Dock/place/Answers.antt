-- `dock::dock::Dock::place` meets its contract: past the first two tests the request is out, or it is not, as the slot's job and blocker say. Assumes nothing.
use mathlib.Core.Path.{sym, ◌∙◌}
use borrow.Author.Tests.{lt-ltb}
use Rattle.dock.specs.Dock.{is_out}
use Rattle.dock.specs.Next.{is_sound_of, piece_in, piece_of}
use Rattle.dock.proofs.dock.Dock.place.Goals as goal

pub returns-then-not-is_out : goal.returns-then-not-is_out
unfolding piece_of is_out
returns-then-not-is_out c = simp (sym c.lent_fits.ensures ∙ c.if-not-lent_fits.false, lt-ltb c.args.slot 8 c.if-slot-ge-SLOTS.false, sym c.is_out.ensures ∙ c.if-not-is_out.true)

pub returns : goal.returns
unfolding piece_of is_out is_sound_of piece_in
returns c = c.piece_in.ensures ∙ simp (sym c.lent_fits.ensures ∙ c.if-not-lent_fits.false, lt-ltb c.args.slot 8 c.if-slot-ge-SLOTS.false, sym c.is_out.ensures ∙ c.if-not-is_out.false)
