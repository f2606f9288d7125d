-- The list of specs/Example.antt has the bytes and answers that stand there, and is lawful. Assumes nothing.
use Rattle.std.specs.Prelude.{refl}
use Rattle.theorem_lists.specs.Histories.{Lawful}
use Rattle.theorem_lists.specs.Acts.{events_of, lawful, computing_lists}
use Rattle.theorem_lists.specs.Example.{world, plain, whole_list, Computed}

pub computed : Computed
unfolding computing_lists
computed = record {
  waits = refl;
  first = refl;
  second = refl;
  direct = refl;
  real = refl;
  plain_bytes = refl;
  write_answer = refl;
  direct_answer = refl;
  read_answer = refl;
  zero_answer = refl;
  failed_answer = refl;
  discard_answer = refl;
  direct_read_answer = refl;
  refused = refl;
  refused_lent = refl;
  holds = refl;
  is_lawful = refl;
}

pub example : Lawful world plain (events_of world whole_list)
example = lawful world plain whole_list computed.is_lawful
