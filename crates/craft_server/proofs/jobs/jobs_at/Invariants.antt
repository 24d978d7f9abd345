use Rattle.std.proofs.Common.{◌≡◌, ◌≤◌, ◌+◌, ◌++◌, List, ℕ, All, length, map}
use Rattle.std.specs.Prelude.{vec_capacity, vec_len}
use Rattle.std.specs.Vec.Iter.{into_iter_items, into_iter_len}
use Rattle.craft_server.proofs.jobs.jobs_at.Given as goal

abbrev pub invariant-loop-place : goal.invariant-loop-place
invariant-loop-place g l = record {
  each : vec_len l.jobs ≡ length l.yielded;
  room : vec_len l.fn.places ≤ vec_capacity l.jobs;
  doors : length l.yielded + vec_len l.doors ≡ vec_len l.fn.places;
  left : length l.yielded + into_iter_len l.place-iterator ≡ vec_len l.fn.places;
  all : l.yielded ++ into_iter_items l.place-iterator ≡ l.fn.places.items;
  count : into_iter_len l.place-iterator ≡ length (into_iter_items l.place-iterator);
  places : map (λ job. job.place) l.jobs.items ≡ l.yielded;
  shut : (name : List ℕ) → All (λ door. g.O.Opener.listener_for door.listener name) l.fn.doors.items → All (λ door. g.O.Opener.listener_for door.listener name) l.doors.items;
  listeners : (name : List ℕ) → All (λ door. g.O.Opener.listener_for door.listener name) l.fn.doors.items → All (λ job. g.O.Opener.listener_for job.listener name) l.jobs.items;
}
