-- A mirrored disk joins whoever stands by anew.
use Rattle.std.proofs.Common.{◌≡◌, inl, inr, ⊎_elim, ℕ, ◌+◌, ◌^◌, ◌<◌, List, [], length, Option, Some, None, IsSome, Ok, refl, sym, ◌∙◌, ap, subst}
use Rattle.dxc_disk.specs.Disks.{DiskState, Looks}
use Rattle.dxc_outside.specs.Items.{taken}
use Rattle.dxc_outside.specs.Links.{LinkState}
use Rattle.dxc_outside.specs.declared.link.Lost.{Lost}
use Rattle.standby_link.specs.declared.line.Line.{Line}
use Rattle.standby_link.specs.Acts.{pieces}
use Rattle.standby_link.specs.Fronts.{IsWhole, Known}
use Rattle.standby_link.specs.Joinings.{Continues, Means, SyncsOn, SyncsTold, TellsOrJoins, at, state}
use Rattle.standby_link.specs.Lines.{IsHungUp, LineState, SentActs, StaysLost, Syncs}
use Rattle.standby_link.specs.Moves.{IsSmall, SendsFile, TellsSync}
use Rattle.standby_link.proofs.MoveSteps.{file_sent, steps_by_sync}

-- a line that stays lost is hung up as it was
pub stays_hung_up : (old new before now : Option Lost) → IsSome old → new ≡ old → now ≡ before → IsHungUp old new before now
stays_hung_up None new before now some same hung = record { over = λ is is_some. cc; same = λ none. hung }
stays_hung_up (Some why) new before now some same hung = record { over = λ is is_some. hung ∙ is refl ∙ sym same; same = λ none. hung }

lost_here : (o : Option Lost) → o ≡ None → IsSome o → ⊥
lost_here None none some = cc
lost_here (Some why) none some = cc

-- A file that is known was sent whole, or as far as the link took it.
pub known_sent : (told : Type 0) (d : DiskState) (k : LinkState) (m : LineState) (n : ℕ) (front : List ℕ) → n ≡ 0 → front ≡ d.reads_as
    → (n + length (pieces 0 front) < 2 ^ 64 → 0 + length front < 2 ^ 64 → SentActs told k m.link n m.number m.lost (pieces 0 front))
    → IsSmall 0 0 d.reads_as → SendsFile told d d k m
known_sent told d k m n front first same sends small =
    let few = subst (λ (l : List ℕ). n + length (pieces 0 l) < 2 ^ 64) (sym same) (subst (λ (i : ℕ). i + length (pieces 0 d.reads_as) < 2 ^ 64) (sym first) small.0) in
    let short = subst (λ (l : List ℕ). 0 + length l < 2 ^ 64) (sym same) small.1 in
    file_sent told d d k m
    (subst (λ (i : ℕ). SentActs told k m.link i m.number m.lost (pieces 0 d.reads_as)) first
    (subst (λ (l : List ℕ). SentActs told k m.link n m.number m.lost (pieces 0 l)) same (sends few short)))

module _ {D K : Type 0} (w : Means D K) (j k : Known D) (l m : Line K) where
  -- what was told over the line of a sync that was made
  tells_on : {T E : Type 0} (x : T) → Continues w k l m → TellsSync {T = T} {E = E} w.link.told (at w l) (at w m) (Ok x)
  tells_on x goes = record {
    gone = λ some. ⊎_elim (λ asked. ap (λ (n : Line K). n.lost) asked.1.same) (λ waits. ap (λ (n : Line K). n.lost) waits.1) (goes.stays some);
    vain = λ some. ⊎_elim
        (λ stays. let asked = stays.1.asked in record { came = taken asked.got asked.buffer; left = asked.read.left })
        (λ waits. record { came = []; left = λ t. ap (λ (n : Line K). (w.link.state n.link).left) (sym waits.1) })
        (goes.stays some);
    syncs = λ here few. goes.syncs here few;
    failing = λ here. tt;
  }

  told_on : {T E : Type 0} (x : T) → (w.disk.told → Looks (state w j) (state w k)) → Continues w k l m → SyncsTold w {T = T} {E = E} j k l m (Ok x)
  told_on {T} {E} x looks goes = record {
    tells = tells_on {T = T} {E = E} x goes;
    steps = steps_by_sync w.disk.told w.link.told (state w j) (state w k) (at w l) (at w m) (Ok x) looks (tells_on {T = T} {E = E} x goes);
    hung_up = goes.hung_up;
    continues = goes;
  }

  pub syncs_made : {T E : Type 0} (x : T) → (w.disk.told → Looks (state w j) (state w k)) → TellsOrJoins w k l m → SyncsOn w {T = T} {E = E} (j, l) (k, m) (Ok x)
  syncs_made {T} {E} x looks came = ⊎_elim (λ goes. inl (told_on {T = T} {E = E} x looks goes)) (λ rejoins. inr (refl, record { looks = looks; rejoins = rejoins })) came

module _ {D K : Type 0} (w : Means D K) (k : Known D) where
  -- a line that is there is told
  pub goes_on : (l m : Line K) → l.lost ≡ None → (l.number + 1 < 2 ^ 64 → Syncs w.link.told (at w l) (at w m)) → IsHungUp l.lost m.lost (w.link.hung_up l.link) (w.link.hung_up m.link) → TellsOrJoins w k l m
  goes_on l m here syncs hung_up = inl (record {
    syncs = λ none few. syncs few;
    stays = λ some. absurd (lost_here l.lost here some);
    hung_up = hung_up;
  })

  -- nobody stands by
  pub stays_on : (l m : Line K) → IsSome l.lost → IsWhole k → StaysLost w.link.told w.link.begun w.link.state l m → w.link.hung_up m.link ≡ w.link.hung_up l.link → TellsOrJoins w k l m
  stays_on l m some whole stays hung = inl (record {
    syncs = λ none few. absurd (lost_here l.lost none some);
    stays = λ is. inl (whole, stays);
    hung_up = stays_hung_up l.lost m.lost (w.link.hung_up l.link) (w.link.hung_up m.link) some (ap (λ (n : Line K). n.lost) stays.same) hung;
  })

  -- nobody is asked
  pub waits_on : (l : Line K) → IsSome l.lost → (IsWhole k → ⊥) → TellsOrJoins w k l l
  waits_on l some part = inl (record {
    syncs = λ none few. absurd (lost_here l.lost none some);
    stays = λ is. inr (part, refl);
    hung_up = stays_hung_up l.lost l.lost (w.link.hung_up l.link) (w.link.hung_up l.link) some refl refl;
  })
