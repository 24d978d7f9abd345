use mathlib.Core.Logic.{inl, inr}
use Rattle.std.proofs.Common.{[], ◌∷◌, refl}
use Rattle.dxc_outside.specs.Asked.{copy_named, listener_named}
use Rattle.dxc_jobs.proofs.Counting.{rose_behind}
use Rattle.dxc_jobs.proofs.Handing.{handed}
use Rattle.dxc_jobs.proofs.StandingBy.{met_by}
use Rattle.dxc_jobs.proofs.standby.meet_primary.Goals as goal

pub returns-in-Failed-clause-stands : goal.returns-in-Failed-clause-stands
returns-in-Failed-clause-stands g c = inr (refl, c.copy.ensures.opening.cause.cause c.in-Failed.is)

pub returns-in-NoMemory-clause-stands : goal.returns-in-NoMemory-clause-stands
returns-in-NoMemory-clause-stands g c = inl refl

pub returns-in-Failed-listener-clause-stands : goal.returns-in-Failed-listener-clause-stands
returns-in-Failed-listener-clause-stands g c = ((λ t. handed g.O.Opener.told (g.O.Opener.journal_at c.args.opener.now) (g.O.Opener.journal_at c.args.opener.now) (g.O.Opener.journal_at c.copy.new.self) c.copy.result c.in-Open.disk c.args.journal.now (λ t n. refl) c.in-Open.is c.copy.ensures.opening.hands t), inr (refl, rose_behind _ _ _ c.copy.ensures.opening.cause.later (c.listener.ensures.cause.cause c.in-Failed-listener.is)))

pub returns-in-NoMemory-listener-clause-stands : goal.returns-in-NoMemory-listener-clause-stands
returns-in-NoMemory-listener-clause-stands g c = ((λ t. handed g.O.Opener.told (g.O.Opener.journal_at c.args.opener.now) (g.O.Opener.journal_at c.args.opener.now) (g.O.Opener.journal_at c.copy.new.self) c.copy.result c.in-Open.disk c.args.journal.now (λ t n. refl) c.in-Open.is c.copy.ensures.opening.hands t), inl refl)

pub returns-in-Served-clause-stands : goal.returns-in-Served-clause-stands
returns-in-Served-clause-stands g c = (
  record {
    copy = c.in-Open.disk;
    handed = λ t. handed g.O.Opener.told (g.O.Opener.journal_at c.args.opener.now) (g.O.Opener.journal_at c.args.opener.now) (g.O.Opener.journal_at c.copy.new.self) c.copy.result c.in-Open.disk c.args.journal.now (λ t n. refl) c.in-Open.is c.copy.ensures.opening.hands t;
    door = c.in-Open-listener.listener;
    opened = λ t. handed g.O.Opener.told (g.O.Opener.listener_at c.args.opener.now) (g.O.Opener.listener_at c.copy.new.self) (g.O.Opener.listener_at c.listener.new.self) c.listener.result c.in-Open-listener.listener c.args.address.now c.copy.ensures.listeners c.in-Open-listener.is c.listener.ensures.hands t;
  },
  met_by g.O.Journal.Disk.told g.O.Listener.Listener.told g.O.Listener.Link.Link.told g.O.Journal.Disk.state g.O.Listener.Listener.state g.O.Listener.Link.Link.state g.O.Listener.Link.Link.begun g.O.Listener.Link.Link.hung_up _ _ _ _ _ _ c.in-Served.is c.primary_of.ensures,
)

pub returns-in-Nobody-clause-stands : goal.returns-in-Nobody-clause-stands
returns-in-Nobody-clause-stands g c = (
  record {
    copy = c.in-Open.disk;
    handed = λ t. handed g.O.Opener.told (g.O.Opener.journal_at c.args.opener.now) (g.O.Opener.journal_at c.args.opener.now) (g.O.Opener.journal_at c.copy.new.self) c.copy.result c.in-Open.disk c.args.journal.now (λ t n. refl) c.in-Open.is c.copy.ensures.opening.hands t;
    door = c.in-Open-listener.listener;
    opened = λ t. handed g.O.Opener.told (g.O.Opener.listener_at c.args.opener.now) (g.O.Opener.listener_at c.copy.new.self) (g.O.Opener.listener_at c.listener.new.self) c.listener.result c.in-Open-listener.listener c.args.address.now c.copy.ensures.listeners c.in-Open-listener.is c.listener.ensures.hands t;
  },
  met_by g.O.Journal.Disk.told g.O.Listener.Listener.told g.O.Listener.Link.Link.told g.O.Journal.Disk.state g.O.Listener.Listener.state g.O.Listener.Link.Link.state g.O.Listener.Link.Link.begun g.O.Listener.Link.Link.hung_up _ _ _ _ _ _ c.in-Nobody.is c.primary_of.ensures,
)

pub returns-in-NoneHeard-clause-stands : goal.returns-in-NoneHeard-clause-stands
returns-in-NoneHeard-clause-stands g c = (
  record {
    copy = c.in-Open.disk;
    handed = λ t. handed g.O.Opener.told (g.O.Opener.journal_at c.args.opener.now) (g.O.Opener.journal_at c.args.opener.now) (g.O.Opener.journal_at c.copy.new.self) c.copy.result c.in-Open.disk c.args.journal.now (λ t n. refl) c.in-Open.is c.copy.ensures.opening.hands t;
    door = c.in-Open-listener.listener;
    opened = λ t. handed g.O.Opener.told (g.O.Opener.listener_at c.args.opener.now) (g.O.Opener.listener_at c.copy.new.self) (g.O.Opener.listener_at c.listener.new.self) c.listener.result c.in-Open-listener.listener c.args.address.now c.copy.ensures.listeners c.in-Open-listener.is c.listener.ensures.hands t;
  },
  met_by g.O.Journal.Disk.told g.O.Listener.Listener.told g.O.Listener.Link.Link.told g.O.Journal.Disk.state g.O.Listener.Listener.state g.O.Listener.Link.Link.state g.O.Listener.Link.Link.begun g.O.Listener.Link.Link.hung_up _ _ _ _ _ _ c.in-NoneHeard.is c.primary_of.ensures,
)

pub returns-in-Failed-clause-asked : goal.returns-in-Failed-clause-asked
returns-in-Failed-clause-asked g c = c.copy.ensures.asked

pub returns-in-NoMemory-clause-asked : goal.returns-in-NoMemory-clause-asked
returns-in-NoMemory-clause-asked g c = c.copy.ensures.asked

pub returns-in-Failed-listener-clause-asked : goal.returns-in-Failed-listener-clause-asked
returns-in-Failed-listener-clause-asked g c = g.O.Opener.asked_on c.args.opener.now c.copy.new.self c.listener.new.self (copy_named c.args.journal.now ∷ []) (listener_named c.args.address.now ∷ []) c.copy.ensures.asked c.listener.ensures.asked

pub returns-in-NoMemory-listener-clause-asked : goal.returns-in-NoMemory-listener-clause-asked
returns-in-NoMemory-listener-clause-asked g c = g.O.Opener.asked_on c.args.opener.now c.copy.new.self c.listener.new.self (copy_named c.args.journal.now ∷ []) (listener_named c.args.address.now ∷ []) c.copy.ensures.asked c.listener.ensures.asked

pub returns-in-Served-clause-asked : goal.returns-in-Served-clause-asked
returns-in-Served-clause-asked g c = g.O.Opener.asked_on c.args.opener.now c.copy.new.self c.listener.new.self (copy_named c.args.journal.now ∷ []) (listener_named c.args.address.now ∷ []) c.copy.ensures.asked c.listener.ensures.asked

pub returns-in-Nobody-clause-asked : goal.returns-in-Nobody-clause-asked
returns-in-Nobody-clause-asked g c = g.O.Opener.asked_on c.args.opener.now c.copy.new.self c.listener.new.self (copy_named c.args.journal.now ∷ []) (listener_named c.args.address.now ∷ []) c.copy.ensures.asked c.listener.ensures.asked

pub returns-in-NoneHeard-clause-asked : goal.returns-in-NoneHeard-clause-asked
returns-in-NoneHeard-clause-asked g c = g.O.Opener.asked_on c.args.opener.now c.copy.new.self c.listener.new.self (copy_named c.args.journal.now ∷ []) (listener_named c.args.address.now ∷ []) c.copy.ensures.asked c.listener.ensures.asked
