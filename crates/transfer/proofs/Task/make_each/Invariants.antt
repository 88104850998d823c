-- while no call moves shear the hand stays as it was
use Rattle.std.proofs.Common.{◌≡◌, IsTrue, is_none}
use Rattle.std.specs.List.{list_all}
use Rattle.law.specs.Histories.{wall_moved}
use Rattle.jobs.specs.Views.{act_of}
use Rattle.transfer.proofs.Task.make_each.Given as goal

abbrev pub invariant-loop-name : goal.invariant-loop-name
invariant-loop-name g l = IsTrue (list_all (λ named. is_none (wall_moved (act_of named.1) l.fn.self.hand.note)) l.calls) → l.self.hand.note ≡ l.fn.self.hand.note
