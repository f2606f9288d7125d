-- `stages::plan::second_read` meets its contract: the tail in the reads is the span's. Assumes nothing.
use mathlib.Core.Path.{sym, ap, ◌∙◌}
use mathlib.Core.Logic.{⊎_elim}
use Prim.Native.Nat.{ℕ, ◌-◌}
use Rattle.arithmetic.specs.Offsets.{range_of}
use Rattle.arithmetic.specs.declared.offsets.Range.{Range}
use Rattle.arithmetic.specs.declared.padding.Span.{Span}
use Rattle.stages.specs.Stages.{second_of}
use Rattle.stages.specs.Transfers.{tail_is, heads_are}
use Rattle.stages.proofs.plan.second_read.Goals as goal

abbrev tail : Span → ℕ → Range
tail s t = range_of (s.end.0 - t) s.end.0

pub returns-in-Tail : goal.returns-in-Tail
returns-in-Tail c = let s = c.args.s in c.last_bytes.ensures ∙ ⊎_elim
    (λ o. let e = sym c.reads.ensures ∙ o.1 in ap (tail s) (sym (tail_is s _ e)) ∙ sym (ap (second_of s) e))
    (λ o. let e = sym c.reads.ensures ∙ o.2 in ap (tail s) (sym (heads_are s _ _ e).1) ∙ sym (ap (second_of s) e))
    c.in-Tail.is
