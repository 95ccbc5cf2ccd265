-- An index without places, and the places of one worker more.
use Rattle.std.proofs.Common.{rules, ◌≡◌, ℕ, ◌<◌, nat_lt, ◌+◌, ◌*◌, Bool, true, false, List, length, replicate, get_or, refl, ap, ◌∙◌, arith}
use Rattle.std.proofs.lemmas.Bool.{ltb-true, ltb-false}
use Rattle.std.proofs.lemmas.List.{get_or-replicate, get_or_past, length-replicate}
use Rattle.chunk_file.specs.declared.index.Place.{Place}
use Rattle.chunk_file.specs.Places.{places_of, no_places}
use Rattle.scatter_epoch.proofs.Workers.{index_more}
use Rattle.scatter_epoch.proofs.index.index_places.Goals as goal

no_list : (n k : ℕ) → get_or (replicate n no_places) k no_places ≡ no_places
no_list n k = by (nat_lt k n) refl
  where
    by : (test : Bool) → nat_lt k n ≡ test → get_or (replicate n no_places) k no_places ≡ no_places
    by true is = get_or-replicate n k no_places no_places (ltb-true k n is)
    by false is = get_or_past (replicate n no_places) k no_places (let far = ltb-false k n is in omega (arith, far, length-replicate n no_places))

pub loop-worker-init : goal.loop-worker-init
loop-worker-init c =
    let clear = c.clear.ensures in
    record {
      long = ap (λ (index : List (List Place)). length index) clear ∙ length-replicate 512 no_places;
      few = λ cursor. let none = ap (λ (list : List Place). length list) (ap (λ (index : List (List Place)). get_or index cursor no_places) clear ∙ no_list 512 cursor) in omega (arith, none);
      places = λ engine partition below below'. ap (λ (index : List (List Place)). places_of index engine partition) clear ∙ no_list 512 (64 * engine + partition);
    }

pub loop-worker-preserved : goal.loop-worker-preserved
loop-worker-preserved c =
    let worker = c.loop-worker.worker in
    let is : c.index.result.now ≡ get_or c.args.places.now.items worker c.index.result.now = search rules in
    let within : worker < length c.args.places.now.items = omega arith in
    record {
      long = c.add_worker.ensures.lists;
      few = c.add_worker.ensures.few c.loop-worker.invariant.few;
      places = λ engine partition below below'.
          index_more c.args.places.now.items worker engine partition c.index.result.now _ _ c.as_slice.result.now within is c.as_slice.ensures.value
          (c.loop-worker.invariant.places engine partition below below') (c.in_ok-add_worker.ensures.places engine partition below below');
    }
