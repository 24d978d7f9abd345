-- The Provisioner after a stop, and its recovery on the way.
use Rattle.std.proofs.Common.{append-nil, ◌≡◌, inl, inr, ℕ, ◌+◌, ◌<◌, ◌≤◌, ◌^◌, true, false, List, [], ◌∷◌, ◌++◌, length, Option, Some, None, sym, refl, ap, ◌∙◌, subst, arith}
use Rattle.std.specs.List.{AllByRecursion}
use Rattle.dxc_num.specs.Dimensions.{Dimensions}
use Rattle.dxc_disk.specs.Disks.{DiskState}
use Rattle.dxc_num.specs.declared.register.RegWrite.{RegWrite}
use Rattle.dxc_model.specs.declared.op.Op.{Op}
use Rattle.dxc_model.specs.declared.op.Change.{Change}
use Rattle.dxc_model.specs.Tables.{Board}
use Rattle.dxc_model.proofs.Verdicts.{own_verdict}
use Rattle.fabric_core.specs.declared.size.Size.{Size}
use Rattle.fabric_words.specs.Seats.{FabricId, MoverAt}
use Rattle.paull_matrix.specs.Colourings.{Colouring}
use Rattle.paull_chain.specs.Works.{after_ops}
use Rattle.roll_plan.specs.declared.op.LegOp.{LegOp}
use Rattle.roll_plan.specs.declared.work.Work.{Work}
use Rattle.roll_plan.specs.Works.{ops_writes, switches_in}
use Rattle.roll_engine.specs.Answers.{GoesOn}
use Rattle.roll_engine.specs.Courses.{IsReady}
use Rattle.fabric_core.specs.declared.mover.Mover.{Mover}
use Rattle.roll_engine.specs.declared.rolling.Behind.{Behind}
use Rattle.roll_engine.specs.declared.rolling.Behind.TheVariants.{Nothing}
use Rattle.roll_engine.specs.Rollings.{RollingAt, rest_of}
use Rattle.roll_engine.specs.Stages.{IsAtRestOn}
use Rattle.roll_engine.specs.UnderWay.{IsUnderWay, unmade}
use Rattle.roll_engine.proofs.Running.{switch_counted, switches_join}
use Rattle.roll_engine.specs.Leading.{IsLeading}
use Rattle.roll_engine.specs.Cold.{left_behind, left_of, legs_then}
use Rattle.roll_engine.proofs.Leading.{led_to_rest}
use Rattle.roll_engine.proofs.UnderWay.{under_way_begun, under_way_done, under_way_on, under_way_ready}
use Rattle.journal_core.specs.declared.head.Head.{Head}
use Rattle.xc_journal.specs.Entries.{FitsChange, FitsConn}
use Rattle.xc_recovery.specs.ChangeWorks.{choices_in}
use Rattle.xc_recovery.specs.Placings.{IsPlaced}
use Rattle.xc_recovery.specs.Replays.{ComesTo}
use Rattle.xc_recovery.proofs.Folding.{effect_fits}
use Rattle.xc_recovery.proofs.Once.{change_plans_once}
use Rattle.xc_recovery.proofs.Placing.{effect_shape, placed_after}
use Rattle.xc_recovery.proofs.Spelled.{changes_made}
use Rattle.xc_core.specs.declared.provisioner.Provisioner.{Provisioner}
use Rattle.xc_core.specs.Journals.{IsJournalled, IsOneMore, IsSoFar}
use Rattle.xc_core.specs.Reckonings.{IsPlannedFor, Past, changed}
use Rattle.xc_core.specs.Provisioners.{IsHome, KeepsPast, MayBeHeld, Rolls, with_halt}
use Rattle.xc_core.specs.Restarts.{HasWay, IsFound, IsHalted, IsListOf, IsOnWay, IsOwnWay, LastIs, Lists, Rejoins, Resumes, TakesUp, number_with, writes_left}
use Rattle.dxc_model.specs.Steps.{with_change}
use Rattle.dxc_model.specs.Verdicts.{MayTake, effect}
use Rattle.std.specs.Prelude.{IfSome}
use Rattle.xc_core.specs.Endings.{Ends, with_switches}
use Rattle.xc_core.proofs.Pasts.{none_held, past_marked, past_moved}
use Rattle.xc_core.proofs.Granting.{granted_once}
use Rattle.xc_core.proofs.Reckoning.{comes_on}
use Rattle.xc_core.proofs.Journalling.{journalled_home}
use Rattle.xc_core.proofs.Rolling.{within}

-- no work
abbrev no_work : Work
no_work = record { ops = record { items = [] } }

-- what there is after a change was taken up
module _ (b : Past) (doubt : Option Op) where
  pub taken_few : (lacking : Option Change) (g : Past) → b.fold.switches ≤ 2 ^ 48 → TakesUp b doubt lacking g → g.fold.switches ≤ 2 ^ 48
  taken_few None g few is = subst (λ (x : Past). x.fold.switches ≤ 2 ^ 48) (sym is) few
  taken_few (Some c) g few (op, asked, granted, met, is) =
      let fits = within (b.fold.switches + switches_in (ops_writes met.ops)) b.changes (sym met.limit) in
      subst (λ (x : Past). x.fold.switches ≤ 2 ^ 48) (sym is) fits.0

  op_same : {x y : Op} → Some x ≡ Some y → x ≡ y
  op_same e = cc

  -- the list with the change's record comes to what there is after it, by its work at last
  pub taken_more : (c : Change) (g : Past) → TakesUp b doubt (Some c) g → (head : Head) (records : List (List ℕ)) → IsListOf b doubt (Some c) head records → ComesTo b.fold.table.shape head records g.fold.table g.fold.colours g.fold.work
  taken_more c g (op, asked, granted, met, is) head records (x, ask, held) =
      let t = b.fold.table in
      let m = b.fold.colours in
      let more : IsOneMore b op head records = subst (λ (y : Op). IsOneMore b y head records) (op_same (sym ask ∙ asked)) held in
      let change : more.is.change ≡ c = granted_once t op c more.is.change granted more.is.granted in
      let ops : more.is.within.ops ≡ met.ops = change_plans_once t m c more.is.within.ops met.ops (subst (λ (y : Change). IsPlannedFor b y more.is.within.ops) change more.is.within.planned) met.planned in
      subst (λ (y : Past). ComesTo t.shape head records y.fold.table y.fold.colours y.fold.work) (sym is)
      (subst (λ (w : Change × List LegOp). ComesTo t.shape head records (effect t w.0) (after_ops w.1 m) w.1) (λ i. (change i, ops i)) (comes_on b op head records more))

  pub taken_so_far : (lacking : Option Change) (g : Past) → TakesUp b doubt lacking g → (head : Head) (records : List (List ℕ)) → IsListOf b doubt lacking head records → IsSoFar g head records
  taken_so_far None g is head records listed = subst (λ (y : Past). IsSoFar y head records) (sym is) listed
  taken_so_far (Some c) g (op, asked, granted, met, is) head records listed = (
    g.fold.work,
    subst (λ (d : Dimensions). ComesTo d head records g.fold.table g.fold.colours g.fold.work) (sym (effect_shape b.fold.table c) ∙ sym (ap (λ (y : Past). y.fold.table.shape) is)) (taken_more c g (op, asked, granted, met, is) head records listed),
  )

  -- each connection may be spelled still
  pub taken_spelled : MayBeHeld b doubt → AllByRecursion FitsConn b.fold.table.conns → (lacking : Option Change) (g : Past) → TakesUp b doubt lacking g → AllByRecursion FitsConn g.fold.table.conns
  taken_spelled held spelled None g is = subst (λ (y : Past). AllByRecursion FitsConn y.fold.table.conns) (sym is) spelled
  taken_spelled held spelled (Some c) g (op, asked, granted, met, is) =
      let x = (held op asked).1 in
      let fits : FitsChange c = subst FitsChange (granted_once b.fold.table op c x.change granted x.granted) x.fits in
      subst (λ (y : Past). AllByRecursion FitsConn y.fold.table.conns) (sym is) (effect_fits b.fold.table c spelled fits)

  pub taken_changes : (lacking : Option Change) (g : Past) → TakesUp b doubt lacking g → number_with b.changes lacking ≡ g.changes
  taken_changes None g is = sym (ap (λ (y : Past). y.changes) is)
  taken_changes (Some c) g (op, asked, granted, met, is) = sym (ap (λ (y : Past). y.changes) is)

  pub taken_placed : IsPlaced b.fold.table b.fold.colours → (lacking : Option Change) (g : Past) → TakesUp b doubt lacking g → (g.fold.table.shape ≡ b.fold.table.shape) × IsPlaced g.fold.table g.fold.colours
  taken_placed placed None g is = (ap (λ (y : Past). y.fold.table.shape) is, subst (λ (y : Past). IsPlaced y.fold.table y.fold.colours) (sym is) placed)
  taken_placed placed (Some c) g (op, asked, granted, met, is) = (
    ap (λ (y : Past). y.fold.table.shape) is ∙ effect_shape b.fold.table c,
    subst (λ (y : Past). IsPlaced y.fold.table y.fold.colours) (sym is)
        (placed_after b.fold.table b.fold.colours c (choices_in met.ops) met.ops placed (own_verdict b.fold.table op c granted) (changes_made b.fold.table b.fold.colours c met.ops met.planned)),
  )

  pub few_changes : (lacking : Option Change) (g : Past) → TakesUp b doubt lacking g → IfSome lacking (λ _. b.changes < 2 ^ 48)
  few_changes None g is = tt
  few_changes (Some c) g (op, asked, granted, met, is) = (within (b.fold.switches + switches_in (ops_writes met.ops)) b.changes (sym met.limit)).1

module _ {D : Type 0} (told : Type 0) (state : D → DiskState) (b : Past) where
  -- at home the registers are at the end of no work
  way_home : (p : Provisioner D) → KeepsPast b p → IsAtRestOn p.mover.fabric.size b.fold.colours p.mover.mover → length p.mover.mover.log ≡ b.fold.switches → IsOnWay p b.fold.colours b (unmade no_work)
  way_home p past rest switches = record {
    under_way = under_way_begun p.mover.fabric.size b.fold.colours no_work p.mover.mover past.placed.colouring tt rest (let few = past.few in omega (arith, few, switches));
    leads = refl;
    switches = omega (arith, switches);
    alone = refl;
  }

  pub has_home : (p : Provisioner D) → KeepsPast b p → IsAtRestOn p.mover.fabric.size b.fold.colours p.mover.mover → length p.mover.mover.log ≡ b.fold.switches → HasWay b p
  has_home p past rest switches = record { lacking = None; past = b; before = b.fold.colours; rolling = unmade no_work; taken = refl; on_way = way_home p past rest switches }

  -- a stop came while no work was under way
  pub halted_home : (p : Provisioner D) → p.halted ≡ true → IsHome told state b (with_halt false p) → IsHalted told state b p
  unfolding has_home
  halted_home p halted h =
      let past = past_marked b (with_halt false p) h.past p.halted in
      let way = has_home p past h.registers h.switches in
      record { halted = halted; past = past; way = way; known = λ t. record { way = way; own = inl refl; journal = h.journal } }

  -- or while one was
  module _ (op : Op) (c : Change) (p : Provisioner D) (r : RollingAt) (halted : p.halted ≡ true) (h : Rolls told state b op c (with_halt false p) r) where
    planned_is : r.work.ops.items ≡ h.within.ops
    planned_is = change_plans_once b.fold.table b.fold.colours c r.work.ops.items h.within.ops h.planned h.within.planned

    has_rolls : HasWay b p
    has_rolls = record {
      lacking = Some c;
      past = changed b c h.within.ops;
      before = b.fold.colours;
      rolling = r;
      taken = (op, h.doubt, h.granted, h.within, refl);
      on_way = record {
        under_way = h.under_way;
        leads = ap (λ (os : List LegOp). after_ops os b.fold.colours) planned_is;
        switches = h.switches ∙ ap (λ (os : List LegOp). b.fold.switches + switches_in (ops_writes os)) planned_is;
        alone = h.alone;
      };
    }

    pub halted_rolls : IsHalted told state b p
    unfolding has_rolls
    halted_rolls = record {
      halted = halted;
      past = past_marked b (with_halt false p) h.past p.halted;
      way = has_rolls;
      known = λ t. record {
        way = has_rolls;
        own = (planned_is, refl);
        journal = (record { kept = h.journalled.keeps.kept; lists = λ u. (op, h.doubt, h.journalled.keeps.lists u) }, h.journalled.whole, h.journalled.still);
      };
    }

  -- a recovery on its way
  module _ (lacking : Option Change) (g : Past) (p : Provisioner D) (r : RollingAt) (h : Resumes told state b lacking g p r) where
    pub resumes_ready : IsReady p.mover.fabric.size (rest_of r) p.mover.mover
    resumes_ready = under_way_ready p.mover.fabric.size h.before r p.mover.mover h.on_way.under_way

    own_journal : (l : Option Change) → IsJournalled told (state p.journal.0) p.journal.1 (IsListOf b p.doubt l) → Lists told state b p l
    own_journal None j = journalled_home told (state p.journal.0) p.journal.1 (IsListOf b p.doubt None) b p.doubt h.past.book j (λ head records is. is)
    own_journal (Some c) j = (j.keeps, j.whole, j.still)

    -- stopped at any step it is halted as before
    pub resumes_halted : IsHalted told state b p
    resumes_halted =
        let way : HasWay b p = record { lacking = lacking; past = g; before = h.before; rolling = r; taken = h.taken; on_way = h.on_way } in
        record { halted = h.halted; past = h.past; way = way; known = λ t. record { way = way; own = h.own t; journal = own_journal lacking h.journalled } }

    none_of : (us vs : List RegWrite) → [] ≡ us ++ vs → vs ≡ []
    none_of [] vs e = sym e
    none_of (u ∷ us) vs e = absurd (cc)

    own_on : (l : Option Change) (s : RollingAt) (z : Size) (m : MoverAt) → GoesOn z r s p.mover.mover m.mover → IsOwnWay (state p.journal.0) p.journal.1 b l h.before g r → IsOwnWay (state p.journal.0) p.journal.1 b l h.before g s
    own_on None s z m goes own = elim own [
      | inl done ↦ inl (none_of goes.advances.writes (rest_of s) (sym done ∙ goes.advances.split))
      | inr last ↦ inr (subst (λ (w : Work). LastIs (state p.journal.0) p.journal.1 b w.ops.items) (sym goes.work) last)
    ]
    own_on (Some c) s z m goes own = (ap (λ (w : Work). w.ops.items) goes.work ∙ own.0, own.1)

    -- the engine took it on
    pub resumes_on : (m : MoverAt) (s : RollingAt) → m.fabric ≡ p.mover.fabric → GoesOn p.mover.fabric.size r s p.mover.mover m.mover → Resumes told state b lacking g (record p { mover = m }) s
    resumes_on m s same goes = record {
      halted = h.halted;
      past = past_moved b p h.past m;
      taken = h.taken;
      before = h.before;
      on_way = record {
        under_way = subst (λ (i : FabricId). IsUnderWay i.size h.before s m.mover) (sym same) (under_way_on p.mover.fabric.size h.before r s p.mover.mover m.mover h.on_way.under_way goes);
        leads = ap (λ (w : Work). after_ops w.ops.items h.before) goes.work ∙ h.on_way.leads;
        switches =
            let a = goes.advances in
            let counted = switch_counted p.mover.fabric.size a.writes p.mover.mover m.mover a.runs in
            let joined = switches_join a.writes (rest_of s) in
            let split = ap switches_in a.split in
            let was = h.on_way.switches in
            omega (arith, counted, joined, split, was);
        alone = goes.behind ∙ h.on_way.alone;
      };
      own = λ t. own_on lacking s p.mover.fabric.size m goes (h.own t);
      journalled = h.journalled;
      matrix = h.matrix;
      lacks = h.lacks;
    }

  -- what a recovery found
  pub found_resumes : (lacking : Option Change) (g : Past) (p : Provisioner D) (r : RollingAt) → Resumes told state b lacking g p r → IsFound told state b lacking g p
  found_resumes lacking g p r h = record { halted = h.halted; past = h.past; taken = h.taken; journalled = h.journalled; matrix = h.matrix; lacks = h.lacks }

  module _ (lacking : Option Change) (g : Past) (p : Provisioner D) (h : IsFound told state b lacking g p) where
    -- the engine took it on
    pub found_moved : (m : MoverAt) → IsFound told state b lacking g (record p { mover = m })
    found_moved m = record { halted = h.halted; past = past_moved b p h.past m; taken = h.taken; journalled = h.journalled; matrix = h.matrix; lacks = h.lacks }

    taken_table : (l : Option Change) (x : Past) → TakesUp b p.doubt l x → with_change b.fold.table l ≡ x.fold.table
    taken_table None x is = sym (ap (λ (y : Past). y.fold.table) is)
    taken_table (Some c) x (op, asked, granted, met, is) = sym (ap (λ (y : Past). y.fold.table) is)

    may_take : (l : Option Change) (x : Past) → TakesUp b p.doubt l x → IfSome l (MayTake b.fold.table)
    may_take None x is = tt
    may_take (Some c) x (op, asked, granted, met, is) = own_verdict b.fold.table op c granted

    -- so the change that is lacking may be taken up
    pub may_take_up : (t : Board) → b.fold.table ≡ t → IfSome p.replayed.lacking (MayTake t)
    may_take_up t same = subst (λ (x : Option Change × Board). IfSome x.0 (MayTake x.1)) (λ i. (sym h.lacks i, same i)) (may_take lacking g h.taken)

    pub may_count : IfSome p.replayed.lacking (λ _. p.changes < 2 ^ 48)
    may_count = subst (λ (x : Option Change × ℕ). IfSome x.0 (λ _. x.1 < 2 ^ 48)) (λ i. (sym h.lacks i, sym h.past.changes i)) (few_changes b p.doubt lacking g h.taken)

    -- the Provisioner when all writes are made: the replayed matrix is the matrix
    abbrev pub ended : Colouring → Colouring → ℕ → ℕ → Provisioner D
    ended m replayed n spent = record p { matrix = m; doubt = None; changes = n; halted = false; spent = spent; replayed = record p.replayed { matrix = replayed } }

    -- so many switches were made, and the registers are at rest on the legs
    module _ (k : ℕ) (few : k ≤ 2 ^ 48) (switches : length p.mover.mover.log ≡ k) (rest : IsAtRestOn p.mover.fabric.size g.fold.colours p.mover.mover) where
      home_ended : (n : ℕ) → n ≡ g.changes → IsHome told state (with_switches k g) (ended p.replayed.matrix p.matrix n (length p.mover.mover.log))
      home_ended n same =
          let placed = taken_placed b p.doubt h.past.placed lacking g h.taken in
          record {
            ready = refl;
            past = record {
              matrix = h.matrix;
              placed = placed.1;
              spent = switches;
              few = few;
              changes = same;
              doubts = none_held (with_switches k g);
              spelled = taken_spelled b p.doubt h.past.doubts h.past.spelled lacking g h.taken;
              book = h.past.book;
              shape = placed.0 ∙ h.past.shape;
              room = record { matrix = ap (λ (x : Colouring). x.shape) h.past.matrix ∙ (h.past.placed.shape ∙ h.past.shape); table = h.past.room.table; expected = h.past.room.expected };
            };
            registers = rest;
            switches = switches;
            journal = journalled_home told (state p.journal.0) p.journal.1 (IsListOf b p.doubt lacking) (with_switches k g) None h.past.book h.journalled (taken_so_far b p.doubt lacking g h.taken);
          }

      -- the end of the recovery, by the calls that make it
      pub ends_at : (before table : Board) (m replayed : Colouring) (n spent : ℕ) → b.fold.table ≡ before → table ≡ with_change before p.replayed.lacking → m ≡ p.replayed.matrix → replayed ≡ p.matrix → n ≡ number_with p.changes p.replayed.lacking → spent ≡ length p.mover.mover.log
          → Ends told state b lacking (with_switches k g) table (ended m replayed n spent) p.replayed.lacking
      ends_at before table m replayed n spent same made is other number spent_is =
          let number_is : n ≡ g.changes = number ∙ ((λ i. number_with (h.past.changes i) (h.lacks i)) ∙ taken_changes b p.doubt lacking g h.taken) in
          record {
            change = h.lacks;
            table_is = made ∙ ((λ i. with_change (sym same i) (h.lacks i)) ∙ taken_table lacking g h.taken);
            home = subst (λ (w : Colouring × Colouring × ℕ). IsHome told state (with_switches k g) (ended w.0 w.1 n w.2)) (λ i. (sym is i, sym other i, sym spent_is i)) (home_ended n number_is);
            settled = h.journalled.settled;
            doubt = refl;
          }

  -- after a work alone nothing comes
  pub alone_left : (c : Colouring) (m : Mover) (r : RollingAt) → r.behind ≡ Nothing → left_of c m r ≡ rest_of r
  alone_left c m r alone = ap (λ (x : Behind). rest_of r ++ left_behind c (legs_then m r) x) alone ∙ append-nil (rest_of r)

  -- the rest of a work was made
  pub resumed_rest : (lacking : Option Change) (g : Past) (p : Provisioner D) (r : RollingAt) → Resumes told state b lacking g p r → rest_of r ≡ [] → IsAtRestOn p.mover.fabric.size g.fold.colours p.mover.mover × (length p.mover.mover.log ≡ g.fold.switches) × (g.fold.switches ≤ 2 ^ 48)
  resumed_rest lacking g p r h none = (
    subst (λ (x : Colouring). IsAtRestOn p.mover.fabric.size x p.mover.mover) h.on_way.leads (under_way_done p.mover.fabric.size h.before r p.mover.mover h.on_way.under_way none),
    (let e = ap switches_in none in let s = h.on_way.switches in omega (arith, e, s)),
    taken_few b p.doubt lacking g h.past.few h.taken,
  )

  -- all that a cold rolling had left was made
  pub rejoined_rest : (lacking : Option Change) (g : Past) (p : Provisioner D) (r : RollingAt) → Rejoins told state b lacking g p r → writes_left p r ≡ [] → IsAtRestOn p.mover.fabric.size g.fold.colours p.mover.mover
  rejoined_rest lacking g p r h none = subst (λ (x : Colouring). IsAtRestOn p.mover.fabric.size x p.mover.mover) h.found.matrix
      (led_to_rest p.mover.fabric.size p.replayed.matrix p.mover.mover (subst (λ (ws : List RegWrite). IsLeading p.mover.fabric.size p.replayed.matrix ws p.mover.mover) none h.leading))
