use Rattle.std.proofs.Common.{ℕ, List, sym, ap, subst}
use Rattle.dxc_disk.proofs.DiskSteps.{no_more_synced}
use Rattle.dxc_disk.proofs.LookSteps.{looks_settled}
use Rattle.journal_core.specs.declared.book.Book.{Book}
use Rattle.journal_core.specs.Headers.{Stands}
use Rattle.journal_core.specs.Books.{listed}
use Rattle.xc_recovery.specs.Replays.{Replays}
use Rattle.xc_core.specs.declared.replayed.Replayed.{Replayed}
use Rattle.xc_core.specs.Journals.{IsOldOrDoubted}
use Rattle.xc_core.specs.Provisioners.{HasRoom}
use Rattle.xc_core.proofs.Journalling.{looked_on}
use Rattle.xc_core.proofs.Rereading.{IsReadAnew, anew_good, anew_halted, anew_reads, halted_failed, lift_read, lift_replay, read_moments, read_on, read_room}
use Rattle.xc_core.proofs.Rooms.{replay_room, replay_sound}
use Rattle.xc_core.proofs.recovery.read.Given as given
use Rattle.xc_core.proofs.recovery.read.Goals as goal

pub returns-in-Err-clause-halted : goal.returns-in-Err-clause-halted
returns-in-Err-clause-halted g c = λ b h. halted_failed g.D.Disk.told g.D.Disk.state b c.args.p.now h c.reread.new.self c.args.p.now.replayed c.reread.ensures.whole (ap (λ (x : Book). x.shape) c.in-Err.ensures.err) h.past.room c.in-Err.ensures.err (λ t. (c.in-Err.ensures.rereads t).kept)
    (λ t. (c.in-Err.ensures.rereads t).err) (λ t. (c.in-Err.ensures.rereads t).doubt) (λ t. (c.in-Err.ensures.rereads t).lines)

pub returns-in-Err-clause-any_moment : goal.returns-in-Err-clause-any_moment
returns-in-Err-clause-any_moment g c = λ t b h. read_moments g.D.Disk.told g.D.Disk.state b c.args.p.now h (g.D.Disk.state c.reread.new.self.0) t (g.met.D.Disk.is_disk c.args.p.now.journal.0 t) (c.reread.ensures.rereads t).any_moment

pub returns-in-Err-clause-acknowledged : goal.returns-in-Err-clause-acknowledged
returns-in-Err-clause-acknowledged g c = λ t. (c.reread.ensures.rereads t).acknowledged

anew : (g : given.Over) (c : goal.After-replay g) → IsReadAnew g.D.Disk.told g.D.Disk.state c.args.p.now.journal c.reread.new.self c.replay.new.journal
anew g c = record {
  shape = c.in-Ok.ensures.ok.2;
  to_mend = c.in-Ok.ensures.ok.1;
  turning = c.in-Ok.ensures.ok.0;
  book = c.reread.ensures.whole;
  same_book = c.replay.ensures.same;
  kept = λ t. c.replay.ensures.kept t (c.in-Ok.ensures.rereads t).kept;
  settled = λ t. looks_settled _ _ (c.replay.ensures.looks t) (c.in-Ok.ensures.rereads t).ok.0;
  synced = λ t. no_more_synced _ _ (c.replay.ensures.no_more t) (c.in-Ok.ensures.rereads t).synced;
  stands = λ t. subst (λ (w : Book × List ℕ). Stands c.args.p.now.journal.1.shape w.0.head (listed w.0 w.1) (g.D.Disk.state c.args.p.now.journal.0).reads_as) (λ i. (sym c.replay.ensures.same i, sym (c.replay.ensures.looks t).same i)) (c.in-Ok.ensures.rereads t).ok.1;
  found = λ t. (c.in-Ok.ensures.rereads t).found;
}

replayed_read : (g : given.Over) (c : goal.After-replay g) → Replayed
replayed_read g c = record c.args.p.now.replayed { matrix = c.replay.new.matrix; table = c.replay.new.table }

room_read : (g : given.Over) (c : goal.After-replay g) → HasRoom c.args.p.now.journal.1.shape c.args.p.now.replayed → HasRoom c.args.p.now.journal.1.shape (replayed_read g c)
unfolding replayed_read
room_read g c room =
    let is = c.replay.ensures.as_read in
    let mid = c.reread.new.self.1 in
    read_room mid.shape mid.head is.0 c.replay.result c.replay.new.table c.replay.new.matrix c.args.p.now.replayed c.args.p.now.journal.1.shape c.in-Ok.ensures.ok.2 room is.2

pub returns-clause-halted : goal.returns-clause-halted
unfolding replayed_read
returns-clause-halted g c = λ b h. anew_halted g.D.Disk.told g.D.Disk.state b c.args.p.now h c.reread.new.self c.replay.new.journal (replayed_read g c) (anew g c) (room_read g c h.past.room)

pub returns-clause-reads : goal.returns-clause-reads
unfolding replayed_read
returns-clause-reads g c = λ b h. anew_reads g.D.Disk.told g.D.Disk.state b c.args.p.now h c.reread.new.self c.replay.new.journal (replayed_read g c) (anew g c) (room_read g c h.past.room) c.replay.result
    (lift_replay c.reread.new.self.1 c.replay.new.journal.1 c.replay.new.table c.replay.new.matrix c.replay.result c.replay.ensures.same c.replay.ensures.as_read)
    (lift_read g.D.Disk.told c.reread.new.self.1 c.replay.new.journal.1 (g.D.Disk.state c.reread.new.self.0).reads_as (g.D.Disk.state c.replay.new.journal.0).reads_as c.replay.new.table c.replay.new.matrix c.replay.result c.replay.ensures.same (λ t. (c.replay.ensures.looks t).same) c.replay.ensures.read)

pub returns-clause-good : goal.returns-clause-good
unfolding replayed_read
returns-clause-good g c = λ t i.
    let w = c.requires.halted in
    anew_good g.D.Disk.told g.D.Disk.state w.0 c.args.p.now w.1 c.reread.new.self c.replay.new.journal (replayed_read g c) (anew g c) (room_read g c w.1.past.room) t c.replay.result i
    (subst (λ (x : Book × List ℕ). Replays x.0.shape x.0.head (listed x.0 x.1) c.replay.result c.replay.new.table c.replay.new.matrix) (λ k. (sym c.replay.ensures.same k, sym (c.replay.ensures.looks t).same k)) (c.replay.ensures.told t))

pub returns-clause-any_moment : goal.returns-clause-any_moment
returns-clause-any_moment g c = λ t b h. looked_on (g.D.Disk.state c.args.p.now.journal.0) (g.D.Disk.state c.reread.new.self.0) (g.D.Disk.state c.replay.new.journal.0) (IsOldOrDoubted b c.args.p.now.doubt) (g.met.D.Disk.is_disk c.reread.new.self.0 t)
    (read_moments g.D.Disk.told g.D.Disk.state b c.args.p.now h (g.D.Disk.state c.reread.new.self.0) t (g.met.D.Disk.is_disk c.args.p.now.journal.0 t) (c.reread.ensures.rereads t).any_moment) (c.replay.ensures.looks t)

pub returns-clause-acknowledged : goal.returns-clause-acknowledged
returns-clause-acknowledged g c = λ t. read_on (g.D.Disk.state c.args.p.now.journal.0) (g.D.Disk.state c.reread.new.self.0) (g.D.Disk.state c.replay.new.journal.0) c.args.p.now.journal.1 (g.met.D.Disk.is_disk c.reread.new.self.0 t) (c.reread.ensures.rereads t).acknowledged (c.replay.ensures.looks t)

pub returns-clause-room : goal.returns-clause-room
returns-clause-room g c = replay_room 65_543 (g.D.Disk.state c.args.p.now.journal.0) (g.D.Disk.state c.reread.new.self.0) (g.D.Disk.state c.replay.new.journal.0) c.reread.new.self.1 c.reread.ensures.whole c.reread.ensures.room c.replay.ensures.room

pub returns-clause-sound : goal.returns-clause-sound
returns-clause-sound g c = λ sound. c.replay.ensures.sound (replay_sound 65_543 (g.D.Disk.state c.args.p.now.journal.0) (g.D.Disk.state c.reread.new.self.0) c.reread.new.self.1 c.reread.ensures.whole c.reread.ensures.cause.later c.reread.ensures.room sound)
