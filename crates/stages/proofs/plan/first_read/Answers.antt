-- `stages::plan::first_read` meets its contract: the head in the reads is the span's. Assumes nothing.
use mathlib.Core.Path.{sym, ap, ◌∙◌}
use mathlib.Core.Logic.{⊎_elim}
use Prim.Native.Nat.{ℕ, ◌+◌}
use Rattle.arithmetic.specs.Offsets.{range_of}
use Rattle.arithmetic.specs.declared.offsets.Range.{Range}
use Rattle.arithmetic.specs.declared.padding.Span.{Span}
use Rattle.stages.specs.Stages.{first_of}
use Rattle.stages.specs.Transfers.{head_is, heads_are}
use Rattle.stages.proofs.plan.first_read.Goals as goal

abbrev head : Span → ℕ → Range
head s h = range_of s.start.0 (s.start.0 + h)

pub returns-in-Head : goal.returns-in-Head
returns-in-Head c = let s = c.args.s in c.first_bytes.ensures ∙ ⊎_elim
    (λ o. let e = sym c.reads.ensures ∙ o.1 in ap (head s) (sym (head_is s _ e)) ∙ sym (ap (first_of s) e))
    (λ o. let e = sym c.reads.ensures ∙ o.2 in ap (head s) (sym (heads_are s _ _ e).0) ∙ sym (ap (first_of s) e))
    c.in-Head.is
