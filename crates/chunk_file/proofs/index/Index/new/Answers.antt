use Rattle.std.proofs.Common.{◌≡◌, refl, ap, ◌∙◌, arith, replicate}
use Rattle.chunk_file.specs.Places.{no_places}
use Rattle.chunk_file.proofs.Lists.{new_index}
use Rattle.chunk_file.proofs.index.Index.new.Goals as goal

pub invariant_of-result : goal.invariant_of-result
invariant_of-result c =
    let all : c.lists.counter ≡ 512 = omega arith in
    new_index _ (c.lists.invariant ∙ ap (λ n. replicate n no_places) all) refl
