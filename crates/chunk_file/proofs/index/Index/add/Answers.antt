use Rattle.std.proofs.Common.{◌+◌, ◌*◌, ◌<◌, ◌∷◌, [], ◌++◌, length, set, get_or, refl, ap, ◌∙◌, sym, subst, arith}
use Rattle.std.specs.Prelude.{Vec}
use Rattle.std.proofs.lemmas.List.{length-map}
use Rattle.std.specs.Global.{Global}
use Rattle.chunk_file.specs.declared.index.Place.{Place}
use Rattle.chunk_file.specs.Places.{no_places, with_place}
use Rattle.chunk_file.specs.Inside.{lists_in}
use Rattle.graph_model.proofs.VecLists.{same_lists, more_lists}
use Rattle.chunk_file.proofs.Lists.{same_index, more_index, total-below}
use Rattle.chunk_file.proofs.index.Index.add.Goals as goal

pub invariant_of-self : goal.invariant_of-self
invariant_of-self c =
    let within : c.list_of.result < length c.self.inside.places.items =
    omega (arith, c.self.invariant.lists, length-map c.self.inside.places.items (λ (v : Vec Place Global). v.items), c.list_of.ensures) in
    same_index c.self.inside _
    (same_lists c.self.inside.places.items c.list_of.result c.index_mut.result.now c.push.new.self c.index_mut.ensures.value within c.in_err-push.ensures.items)
    refl c.self.invariant

pub returns-in_err-push-clause-err : goal.returns-in_err-push-clause-err
returns-in_err-push-clause-err c =
    let within : c.list_of.result < length c.self.inside.places.items =
    omega (arith, c.self.invariant.lists, length-map c.self.inside.places.items (λ (v : Vec Place Global). v.items), c.list_of.ensures) in
    let same = same_lists c.self.inside.places.items c.list_of.result c.index_mut.result.now c.push.new.self c.index_mut.ensures.value within c.in_err-push.ensures.items ∙ c.self.view_is in
    grind (arith, same)

pub overflow_add-self : goal.overflow_add-self
overflow_add-self c = omega (arith, total-below c.self.inside c.self.invariant)

pub invariant_of-self-2 : goal.invariant_of-self-2
invariant_of-self-2 c =
    let within : c.list_of.result < length c.self.inside.places.items =
    omega (arith, c.self.invariant.lists, length-map c.self.inside.places.items (λ (v : Vec Place Global). v.items), c.list_of.ensures) in
    let room : length (get_or (lists_in c.self.inside) c.list_of.result no_places) < 2147483648 =
    subst (λ k. length (get_or (lists_in c.self.inside) k no_places) < 2147483648) (sym c.list_of.ensures)
    (subst (λ index. length (get_or index (64 * c.args.engine + c.args.partition) no_places) < 2147483648) (sym c.self.view_is) c.requires.room) in
    more_index c.self.inside _ c.list_of.result c.args.place (omega (arith, c.list_of.ensures))
    (more_lists c.self.inside.places.items c.list_of.result c.index_mut.result.now c.push.new.self c.args.place c.index_mut.ensures.value within c.in_ok-push.ensures.items)
    refl room c.self.invariant

pub returns-clause-ok : goal.returns-clause-ok
returns-clause-ok c =
    let within : c.list_of.result < length c.self.inside.places.items =
    omega (arith, c.self.invariant.lists, length-map c.self.inside.places.items (λ (v : Vec Place Global). v.items), c.list_of.ensures) in
    more_lists c.self.inside.places.items c.list_of.result c.index_mut.result.now c.push.new.self c.args.place c.index_mut.ensures.value within c.in_ok-push.ensures.items
    ∙ ap (λ k. set (lists_in c.self.inside) k (get_or (lists_in c.self.inside) k no_places ++ c.args.place ∷ [])) c.list_of.ensures
    ∙ ap (λ index. with_place index c.args.engine c.args.partition c.args.place) c.self.view_is
