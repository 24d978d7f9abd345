use Rattle.std.proofs.Common.{◌≡◌, ℕ, ◌+◌, [], ◌∷◌, ◌++◌, get_or, length-append, refl, sym, ◌∙◌, ap, subst, arith}
use Rattle.dxc_disk.proofs.DiskSteps.{no_more_on, no_more_same, spends_none, spends_on}
use Rattle.dxc_disk.proofs.LookSteps.{looks_on, looks_same}
use Rattle.journal_core.specs.Books.{listed}
use Rattle.user_admin.specs.declared.op.UserChange.{UserChange}
use Rattle.user_admin.specs.Users.{Users}
use Rattle.user_admin.specs.Changes.{Fits, effect}
use Rattle.user_admin.specs.Records.{Means}
use Rattle.user_admin.proofs.Folding.{counted, folds_more, none_folded, not_meant, read_more, refused, was_read, whole_read}
use Rattle.user_admin.proofs.fold.fold.Goals as goal

pub loop-i-init : goal.loop-i-init
loop-i-init g c =
    let s = g.D.Disk.state c.args.journal.now.0 in
    let l = c.args.lists.now in
    record {
      described = refl;
      book = refl;
      looks = λ told. looks_same s;
      no_more = λ told. no_more_same s;
      later = omega arith;
      spent = spends_none 0 s;
      so_far = ([], refl, (λ told. refl), none_folded l.described l.users c.requires);
    }

pub loop-i-preserved : goal.loop-i-preserved
loop-i-preserved g c =
    let a = c.args.journal.now in
    let shelf = c.args.lists.now.described in
    let s = g.D.Disk.state a.0 in
    let mid = g.D.Disk.state c.loop-i.journal.0 in
    let u = g.D.Disk.state c.record.new.self.0 in
    let inv = c.loop-i.invariant in
    let r = inv.so_far in
    let i = c.loop-i.i in
    let bytes = c.in-Ok.bytes in
    let end = c.count-i-end.ensures.count in
    let good = c.in-Ok-take.ensures.good in
    record {
      described = c.take.ensures.described ∙ inv.described;
      book = c.record.ensures.same ∙ inv.book;
      looks = λ told. looks_on s mid u (g.met.D.Disk.is_disk a.0 told) (inv.looks told) (c.record.ensures.looks told);
      no_more = λ told. no_more_on s mid u (inv.no_more told) (c.record.ensures.no_more told);
      later = omega (arith, inv.later, c.record.ensures.cause.later);
      spent = spends_on i 1 s mid u inv.spent c.record.ensures.room;
      so_far = (
        r.0 ++ bytes ∷ [],
        length-append r.0 (bytes ∷ []) ∙ ap (λ (n : ℕ). n + 1) r.1,
        (λ told.
            let count = counted s mid u a.1 c.loop-i.journal.1 c.record.new.self.1 inv.book c.record.ensures.same (inv.looks told).same (c.record.ensures.looks told).same (c.record.ensures.kept told) in
            let is = was_read s mid u a.1 c.loop-i.journal.1 c.record.new.self.1 inv.book c.record.ensures.same (inv.looks told).same (c.record.ensures.looks told).same i bytes (c.in-Ok.ensures.record told) in
            read_more r.0 (listed a.1 s.reads_as) i bytes (omega arith) (r.2 told) (whole_read a.1.head.version c.version-version.result (get_or (listed a.1 s.reads_as) i []) bytes c.version-version.ensures good.0 is)),
        folds_more shelf r.0 bytes c.loop-i.lists.users c.take.new.lists.users r.3 (subst (λ (w : Users). (d : UserChange) × Means w bytes d × Fits d c.loop-i.lists.users × (c.take.new.lists.users ≡ effect d c.loop-i.lists.users)) inv.described good.1),
      );
    }

pub returns-in-Err-take-clause-told : goal.returns-in-Err-take-clause-told
returns-in-Err-take-clause-told g c told =
    let a = c.args.journal.now in
    let shelf = c.args.lists.now.described in
    let s = g.D.Disk.state a.0 in
    let mid = g.D.Disk.state c.loop-i.journal.0 in
    let u = g.D.Disk.state c.record.new.self.0 in
    let inv = c.loop-i.invariant in
    let r = inv.so_far in
    let i = c.loop-i.i in
    let bytes = c.in-Ok.bytes in
    let l = listed a.1 s.reads_as in
    let end = c.count-i-end.ensures.count in
    let count = counted s mid u a.1 c.loop-i.journal.1 c.record.new.self.1 inv.book c.record.ensures.same (inv.looks told).same (c.record.ensures.looks told).same (c.record.ensures.kept told) in
    let is = was_read s mid u a.1 c.loop-i.journal.1 c.record.new.self.1 inv.book c.record.ensures.same (inv.looks told).same (c.record.ensures.looks told).same i bytes (c.in-Ok.ensures.record told) in
    refused shelf r.0 l i c.loop-i.lists.users c.take.new.lists.users (omega arith) (r.2 told) r.3 c.in-Err-take.ensures.same
    (not_meant a.1.head.version c.version-version.result (get_or l i []) bytes shelf c.loop-i.lists.users c.version-version.ensures is c.take.ensures.whole
    (λ two d means fits. c.in-Err-take.ensures.bad two d (subst (λ (w : Users). Means w bytes d) (sym inv.described) means) fits))
