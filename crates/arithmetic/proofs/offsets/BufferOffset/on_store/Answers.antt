-- `arithmetic::offsets::BufferOffset::on_store` meets its contract: the sum of start and place, where it fits. Assumes nothing.
use Rattle.arithmetic.specs.RoundingLaws.{sum_had, sum_lacked, sum_fits, sum_over}
use Rattle.arithmetic.specs.Offsets.{on_store_of}
use Rattle.arithmetic.proofs.offsets.BufferOffset.on_store.Goals as goal

pub returns-in_default : goal.returns-in_default
unfolding on_store_of
returns-in_default c = let a = c.args in simp (sum_over a.start.0 a.self.0 (sum_lacked _ _ _ c.checked_add.ensures c.in_default.not-Some))

pub returns : goal.returns
unfolding on_store_of
returns c = let a = c.args in let s = sum_fits a.start.0 a.self.0 c.in-Some.at (sum_had _ _ _ _ c.checked_add.ensures c.in-Some.is) in simp (s.ok, s.is)
