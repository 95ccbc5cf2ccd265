-- The clauses of `apply_work`, as they are.
use Rattle.apply_round.proofs.apply.fn.work_all.work.Goals as goal

pub returns : goal.returns
returns g c =
    let done = c.apply_work.ensures in
    record {
      room = done.room;
      cause = done.outcome;
      applies = record {
        size = done.size;
        beat = done.beat;
        bytes = done.bytes;
        other = done.other;
        any_moment = λ devices before tells. done.any_moment devices tells.read before tells.spilled tells.told tells.stands;
      };
      stores = λ is_done. record {
        settled = done.settled is_done;
        opened = done.opened is_done;
        holds = λ devices before tells. (done.stored is_done devices tells.read before tells.spilled tells.told tells.stands).0;
        counted = λ devices before tells. (done.stored is_done devices tells.read before tells.spilled tells.told tells.stands).1;
      };
    }
