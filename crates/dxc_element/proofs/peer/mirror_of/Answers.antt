use Rattle.std.proofs.Common.{◌∙◌, [], ◌∷◌, arith, inl, inr, refl, true≢false, sym}
use Rattle.dxc_jobs.proofs.Handing.{handed}
use Rattle.dxc_jobs.proofs.Counting.{rose_behind}
use Rattle.dxc_outside.specs.Asked.{journal_named, peer_named}
use Rattle.dxc_outside.specs.declared.opened.Opened.TheVariants.{Failed, NoMemory}
use Rattle.dxc_outside.proofs.Asking.{asked_all, asked_part}
use Rattle.dxc_element.proofs.Starting.{kept_by}
use Rattle.dxc_element.proofs.peer.mirror_of.Goals as goal

pub returns-in-Failed-clause-mirror : goal.returns-in-Failed-clause-mirror
returns-in-Failed-clause-mirror g c =
    let at = g.O.Opener.journal_at in
    let e = c.journal.ensures.opening in
    (inr (refl, e.cause.cause c.in-Failed.is), inl (kept_by g.O.Opener.told c.args.journal.now (at c.args.opener.now) (at c.args.opener.now) (at c.journal.new.self) c.journal.result Failed c.in-Failed.is tt (λ t n. refl) e.hands))

pub returns-in-NoMemory-clause-mirror : goal.returns-in-NoMemory-clause-mirror
returns-in-NoMemory-clause-mirror g c =
    let at = g.O.Opener.journal_at in
    (inl refl, inl (kept_by g.O.Opener.told c.args.journal.now (at c.args.opener.now) (at c.args.opener.now) (at c.journal.new.self) c.journal.result NoMemory c.in-NoMemory.is tt (λ t n. refl) c.journal.ensures.opening.hands))

pub returns-in-Open-peer-clause-mirror : goal.returns-in-Open-peer-clause-mirror
returns-in-Open-peer-clause-mirror g c = record {
  disk = c.in-Open.disk;
  handed = λ t. handed g.O.Opener.told (g.O.Opener.journal_at c.args.opener.now) (g.O.Opener.journal_at c.args.opener.now) (g.O.Opener.journal_at c.journal.new.self) c.journal.result c.in-Open.disk c.args.journal.now (λ t n. refl) c.in-Open.is c.journal.ensures.opening.hands t;
  is_mirror = record {
    looks = c.join.ensures.looks;
    later = c.join.ensures.faults;
    peer = c.in-Open-peer.link;
    joins = c.join.ensures.line;
    step = c.join.ensures.step;
  };
}

pub returns-in-Failed-peer-clause-mirror : goal.returns-in-Failed-peer-clause-mirror
returns-in-Failed-peer-clause-mirror g c =
    let at = g.O.Opener.journal_at in
    let e = c.journal.ensures.opening in (
      inr (refl, rose_behind _ _ _ e.cause.later (c.peer.ensures.cause.cause c.in-Failed-peer.is)),
      inr (record {
        disk = c.in-Open.disk;
        handed = handed g.O.Opener.told (at c.args.opener.now) (at c.args.opener.now) (at c.journal.new.self) c.journal.result c.in-Open.disk c.args.journal.now (λ t n. refl) c.in-Open.is e.hands;
        let_go = c.let_go.ensures;
      }),
    )

pub returns-in-NoMemory-peer-clause-mirror : goal.returns-in-NoMemory-peer-clause-mirror
returns-in-NoMemory-peer-clause-mirror g c =
    let at = g.O.Opener.journal_at in
    let e = c.journal.ensures.opening in (
      inl refl,
      inr (record {
        disk = c.in-Open.disk;
        handed = handed g.O.Opener.told (at c.args.opener.now) (at c.args.opener.now) (at c.journal.new.self) c.journal.result c.in-Open.disk c.args.journal.now (λ t n. refl) c.in-Open.is e.hands;
        let_go = c.let_go-in-NoMemory-peer.ensures;
      }),
    )

pub returns-in-Failed-clause-others : goal.returns-in-Failed-clause-others
returns-in-Failed-clause-others g c = c.journal.ensures.opening.others

pub returns-in-Failed-clause-later : goal.returns-in-Failed-clause-later
returns-in-Failed-clause-later g c = c.journal.ensures.opening.cause.later

pub returns-in-NoMemory-clause-others : goal.returns-in-NoMemory-clause-others
returns-in-NoMemory-clause-others g c = c.journal.ensures.opening.others

pub returns-in-NoMemory-clause-later : goal.returns-in-NoMemory-clause-later
returns-in-NoMemory-clause-later g c = c.journal.ensures.opening.cause.later

pub returns-in-Open-peer-clause-others : goal.returns-in-Open-peer-clause-others
returns-in-Open-peer-clause-others g c = λ t n not. c.peer.ensures.aside.journals t n ∙ c.journal.ensures.opening.others t n not

pub returns-in-Open-peer-clause-later : goal.returns-in-Open-peer-clause-later
returns-in-Open-peer-clause-later g c = let first = c.journal.ensures.opening.cause.later in let then_peer = c.peer.ensures.cause.later in omega (arith, first, then_peer)

pub returns-in-Failed-peer-clause-others : goal.returns-in-Failed-peer-clause-others
returns-in-Failed-peer-clause-others g c = λ t n not. c.peer.ensures.aside.journals t n ∙ c.journal.ensures.opening.others t n not

pub returns-in-Failed-peer-clause-later : goal.returns-in-Failed-peer-clause-later
returns-in-Failed-peer-clause-later g c = let first = c.journal.ensures.opening.cause.later in let then_peer = c.peer.ensures.cause.later in omega (arith, first, then_peer)

pub returns-in-NoMemory-peer-clause-others : goal.returns-in-NoMemory-peer-clause-others
returns-in-NoMemory-peer-clause-others g c = λ t n not. c.peer.ensures.aside.journals t n ∙ c.journal.ensures.opening.others t n not

pub returns-in-NoMemory-peer-clause-later : goal.returns-in-NoMemory-peer-clause-later
returns-in-NoMemory-peer-clause-later g c = let first = c.journal.ensures.opening.cause.later in let then_peer = c.peer.ensures.cause.later in omega (arith, first, then_peer)

pub returns-in-Failed-clause-asked : goal.returns-in-Failed-clause-asked
returns-in-Failed-clause-asked g c = asked_part (g.O.Opener.asked c.args.opener.now c.journal.new.self) _ (journal_named c.args.journal.now ∷ []) (peer_named c.args.peer.now ∷ []) c.journal.ensures.asked (λ ok. true≢false (sym ok))

pub returns-in-NoMemory-clause-asked : goal.returns-in-NoMemory-clause-asked
returns-in-NoMemory-clause-asked g c = asked_part (g.O.Opener.asked c.args.opener.now c.journal.new.self) _ (journal_named c.args.journal.now ∷ []) (peer_named c.args.peer.now ∷ []) c.journal.ensures.asked (λ ok. true≢false (sym ok))

pub returns-in-Open-peer-clause-asked : goal.returns-in-Open-peer-clause-asked
returns-in-Open-peer-clause-asked g c = asked_all (g.O.Opener.asked c.args.opener.now c.peer.new.self) _ (journal_named c.args.journal.now ∷ peer_named c.args.peer.now ∷ []) (g.O.Opener.asked_on c.args.opener.now c.journal.new.self c.peer.new.self (journal_named c.args.journal.now ∷ []) (peer_named c.args.peer.now ∷ []) c.journal.ensures.asked c.peer.ensures.asked)

pub returns-in-Failed-peer-clause-asked : goal.returns-in-Failed-peer-clause-asked
returns-in-Failed-peer-clause-asked g c = asked_all (g.O.Opener.asked c.args.opener.now c.peer.new.self) _ (journal_named c.args.journal.now ∷ peer_named c.args.peer.now ∷ []) (g.O.Opener.asked_on c.args.opener.now c.journal.new.self c.peer.new.self (journal_named c.args.journal.now ∷ []) (peer_named c.args.peer.now ∷ []) c.journal.ensures.asked c.peer.ensures.asked)

pub returns-in-NoMemory-peer-clause-asked : goal.returns-in-NoMemory-peer-clause-asked
returns-in-NoMemory-peer-clause-asked g c = asked_all (g.O.Opener.asked c.args.opener.now c.peer.new.self) _ (journal_named c.args.journal.now ∷ peer_named c.args.peer.now ∷ []) (g.O.Opener.asked_on c.args.opener.now c.journal.new.self c.peer.new.self (journal_named c.args.journal.now ∷ []) (peer_named c.args.peer.now ∷ []) c.journal.ensures.asked c.peer.ensures.asked)
