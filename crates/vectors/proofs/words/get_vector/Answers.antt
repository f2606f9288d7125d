-- `vectors::words::get_vector` meets its contract: each segment is read from its words. Assumes nothing.
use Rattle.std.specs.Prelude.{◌≡◌, refl, ℕ, ◌<◌, length, get_or}
use Rattle.std.proofs.Common.{rules, tests, sym, ◌∙◌}
use Rattle.std.proofs.lemmas.List.FromFn.{fill_by_all}
use Rattle.vectors.specs.Vectors.{none}
use Rattle.vectors.specs.Words.{vector_from}
use Rattle.vectors.specs.WordLaws.{vector_wide}
use Rattle.vectors.proofs.words.get_vector.Goals as goal

pub returns : goal.returns
returns c = let w = c.args.words.now in
    let read : (k : ℕ) → k < 16 → get_or c.from_fn.result k none ≡ get_or (vector_from w).segments k none = λ k h. let a = c.from_fn.ensures.items.at k none h in search (rules, tests) in
    let long : length c.from_fn.result ≡ 16 = search rules in
    let same : c.from_fn.result ≡ (vector_from w).segments =
    fill_by_all (λ k. get_or (vector_from w).segments k none) c.from_fn.result 16 none long read ∙ sym (fill_by_all (λ k. get_or (vector_from w).segments k none) (vector_from w).segments 16 none (vector_wide w) (λ k h. refl)) in
    rw (c.buffer_count.ensures, c.len.ensures, same)
