-- A new table keeps the rule.
use Rattle.std.proofs.Common.{◌≡◌, ◌≢◌, ℕ, zero, suc, ◌+◌, [], ◌∷◌, replicate, refl, sym, arith}
use Rattle.std.proofs.lemmas.List.{length-replicate, get_or-replicate}
use Rattle.std.proofs.lemmas.List.Elements.{All-nil}
use Rattle.std.proofs.lemmas.Bool.{false≢true}
use mathlib.Core.Option.{some, some-ne-none}
use lib.ListN.{get_elem?}
use Rattle.atomic_table.specs.Table.{opening}
use Rattle.chunk_object.specs.History.{IsCaller}
use Rattle.chunk_cursor.specs.declared.view.View.{View}
use Rattle.chunk_cursor.specs.View.{out_at, newcomer}
use Rattle.chunk_cursor.specs.Rule.{IsKept}

none_out : (worker : ℕ) → out_at newcomer worker ≡ 0
none_out zero = refl
none_out (suc zero) = refl
none_out (suc (suc zero)) = refl
none_out (suc (suc (suc zero))) = refl
none_out (suc (suc (suc (suc zero)))) = refl
none_out (suc (suc (suc (suc (suc zero))))) = refl
none_out (suc (suc (suc (suc (suc (suc zero)))))) = refl
none_out (suc (suc (suc (suc (suc (suc (suc zero))))))) = refl
none_out (suc (suc (suc (suc (suc (suc (suc (suc worker)))))))) = refl

no_other : (id : ℕ) (v : View) → get_elem? (newcomer ∷ []) id ≡ some v → id ≢ 0 → ⊥
no_other zero v at ne = ne refl
no_other (suc id) v at ne = some-ne-none v (sym at)

pub begins : IsKept (opening (replicate 576 0) [] newcomer)
begins = record {
  history = [];
  first = newcomer;
  is = record {
    legal = tt;
    ordered = tt;
    callers = All-nil IsCaller;
    lens = λ cursor. omega arith;
    refused_once = λ worker cursor. omega arith;
    helped = record {
      counted = λ partition h. absurd (false≢true h);
      once = λ worker partition. omega arith;
      no_master = λ partition h. refl;
      unsplit = λ unsplit worker partition h. refl;
    };
  };
  shows = record {
    size = length-replicate {A = ℕ} 576 0;
    cursors = λ cursor below. get_or-replicate {A = ℕ} 576 cursor 0 0 (omega arith);
    helpers = λ partition below. get_or-replicate {A = ℕ} 576 (512 + partition) 0 0 (omega arith);
  };
  seats = record {
    place = refl;
    number = (refl, refl);
    held = refl;
    lives = refl;
    workers = refl;
    count = refl;
    outs = λ worker. omega (arith, none_out worker);
    calls = λ serial back. refl;
    none_later = λ serial later. refl;
    unborn_later = λ serial later. refl;
    bears = λ worker out. refl;
    seated = λ id v at ne alive. absurd (no_other id v at ne);
  };
}
