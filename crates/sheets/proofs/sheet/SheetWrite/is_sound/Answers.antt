-- `sheets::sheet::SheetWrite::is_sound` meets its contract, test by test. Assumes nothing.
use mathlib.Core.Path.{sym, ◌∙◌}
use native.Mathlib.Omega.{arith}
use borrow.Author.Tests.{le-ltb, leb-true, leb-false}
use Rattle.sheets.specs.RangeLaws.{never}
use Rattle.sheets.proofs.Testing.{unsound_empty, unsound_wraps, unsound_start, sound_else}
use borrow.Author.Rules.{rules}
use Rattle.sheets.proofs.sheet.SheetWrite.is_sound.Goals as goal
use Rattle.sheets.proofs.sheet.SheetWrite.is_sound.Goals.{then-self-gt0, else-self-gt0, then-self, else-self}

pub returns-then-self-room : goal.returns-then-self-room
returns-then-self-room c =
    elim c.if-self.branch [
      | then-self w ↦ elim c.if-self-gt0.branch [
        | then-self-gt0 v ↦
            sound_else _ _ v.if-self-gt0.true (search rules) (leb-true _ _ (sym v.value-is ∙ w.if-self.true))
            (leb-true _ _ (sym w.value-is ∙ c.if-self-room.true))
        | else-self-gt0 v ↦ never (sym (le-ltb 0 c.args.self.length v.if-self-gt0.false) ∙ sym v.value-is ∙ w.if-self.true)
      ]
      | else-self w ↦ never (sym w.if-self.false ∙ sym w.value-is ∙ c.if-self-room.true)
    ]

pub returns-else-self-room : goal.returns-else-self-room
returns-else-self-room c =
    c.if-self-room.false
    ∙ elim c.if-self.branch [
      | then-self w ↦ sym (unsound_start _ _ (leb-false _ _ (sym w.value-is ∙ c.if-self-room.false)))
      | else-self w ↦ elim c.if-self-gt0.branch [
        | then-self-gt0 v ↦ sym (unsound_wraps _ _ (search rules) (leb-false _ _ (sym v.value-is ∙ w.if-self.false)))
        | else-self-gt0 v ↦ sym (unsound_empty _ _ (omega (arith, v.if-self-gt0.false)))
      ]
    ]
