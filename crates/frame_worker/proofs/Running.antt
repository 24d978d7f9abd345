-- Frames after frames.
use Rattle.std.proofs.Common.{◌≡◌, ℕ, zero, suc, ◌+◌, List, [], ◌++◌, sym, refl, ap, ◌∙◌, subst, arith, append_assoc, append-nil}
use Rattle.dxc_outside.specs.Frames.{LinesState}
use Rattle.fabric_core.specs.declared.size.Size.{Size}
use Rattle.fabric_core.specs.declared.worker.Note.{Note}
use Rattle.fabric_core.specs.declared.worker.Worker.{Worker}
use Rattle.frame_worker.specs.Frames.{IsFrame, after_frame}
use Rattle.frame_worker.specs.Lines.{AreFrames, IsUnwritten, carried, IsRun}
use Rattle.frame_worker.specs.declared.lines.LinesEnd.{LinesEnd}
use Rattle.frame_worker.specs.declared.lines.LinesEnd.TheVariants.{End, ReadFault, WriteFault, Stopped, Spent}

join : {A : Type 0} (a b c : List A) → a ≡ [] → b ≡ c → a ++ b ≡ c
join a b c none same = λ i. none i ++ same i

module _ (z : Size) (w : ℕ) where
  frames_more : (n m : ℕ) (a b : List ℕ) (ns ms : List Note) (x y : List ℕ) → AreFrames z w n a ns x → AreFrames z w m b ms y → AreFrames z w (n + m) (a ++ b) (ns ++ ms) (x ++ y)
  frames_more zero m a b ns ms x y (none, quiet, empty) h = let e : m ≡ 0 + m = omega arith in
      subst (λ (k : ℕ). AreFrames z w k (a ++ b) (ns ++ ms) (x ++ y)) e
      (subst (λ (l : List ℕ × List Note × List ℕ). AreFrames z w m l.0 l.1 l.2) (λ i. (sym (join a b b none refl) i, sym (join ns ms ms quiet refl) i, sym (join x y y empty refl) i)) h)
  frames_more (suc n) m a b ns ms x y (frame, more, one, rest, bytes, out, is, noted, wrote, carries, later) h =
      let e : suc (n + m) ≡ suc n + m = omega arith in
      subst (λ (k : ℕ). AreFrames z w k (a ++ b) (ns ++ ms) (x ++ y)) e (
        frame,
        more ++ b,
        one,
        rest ++ ms,
        bytes,
        out ++ y,
        ap (λ (l : List ℕ). l ++ b) is ∙ append_assoc frame more b,
        ap (λ (l : List Note). l ++ ms) noted ∙ append_assoc one rest ms,
        ap (λ (l : List ℕ). l ++ y) wrote ∙ append_assoc bytes out y,
        carries,
        frames_more n m more b rest ms out y later h,
      )

module _ (z : Size) (told : Type 0) where
  -- nothing was carried
  pub none_carried : (e : LinesEnd) (old new : LinesState) (v : Worker) → IsUnwritten z v.number e [] [] → carried e 0 ≡ 0 → (told → old.left ≡ new.left) → (told → new.written ≡ old.written) → IsRun z told 0 e old new v v
  none_carried e old new v unwritten none left written = record {
    input = [];
    notes = [];
    output = [];
    frames = (refl, refl, refl);
    last_input = [];
    last_notes = [];
    unwritten = unwritten;
    read = left;
    written = λ t. written t ∙ sym (append-nil old.written);
    number = refl;
    frame = omega arith;
    noted = sym (append-nil v.notes);
  }

  -- a frame was carried and written
  pub one_carried : (old new : LinesState) (v v' : Worker) (ns : List Note) (frame bytes : List ℕ) → IsFrame z v.number frame bytes ns → v' ≡ after_frame ns v → (told → old.left ≡ frame ++ new.left) → (told → new.written ≡ old.written ++ bytes)
      → IsRun z told 1 Spent old new v v'
  one_carried old new v v' ns frame bytes carries is left written = record {
    input = frame;
    notes = ns;
    output = bytes;
    frames = (frame, [], ns, [], bytes, [], sym (append-nil frame), sym (append-nil ns), sym (append-nil bytes), carries, (refl, refl, refl));
    last_input = [];
    last_notes = [];
    unwritten = (refl, refl);
    read = λ t. left t ∙ ap (λ (l : List ℕ). l ++ new.left) (sym (append-nil frame));
    written = written;
    number = ap (λ (u : Worker). u.number) is;
    frame = ap (λ (u : Worker). u.frame) is;
    noted = ap (λ (u : Worker). u.notes) is ∙ ap (λ (l : List Note). v.notes ++ l) (sym (append-nil ns));
  }

  -- a frame was carried, and its write failed
  pub one_unwritten : (old new : LinesState) (v v' : Worker) (ns : List Note) (frame bytes : List ℕ) → IsFrame z v.number frame bytes ns → v' ≡ after_frame ns v → (told → old.left ≡ frame ++ new.left) → (told → new.written ≡ old.written)
      → IsRun z told 0 WriteFault old new v v'
  one_unwritten old new v v' ns frame bytes carries is left written = record {
    input = [];
    notes = [];
    output = [];
    frames = (refl, refl, refl);
    last_input = frame;
    last_notes = ns;
    unwritten = (bytes, carries);
    read = left;
    written = λ t. written t ∙ sym (append-nil old.written);
    number = ap (λ (u : Worker). u.number) is;
    frame = ap (λ (u : Worker). u.frame) is;
    noted = ap (λ (u : Worker). u.notes) is;
  }

  -- some frames, and then more
  pub run_more : (n m : ℕ) (e : LinesEnd) (a b c : LinesState) (u v w : Worker) → carried e (n + m) ≡ n + carried e m → IsRun z told n Spent a b u v → IsRun z told m e b c v w → IsRun z told (n + m) e a c u w
  run_more n m e a b c u v w counted first then = record {
    input = first.input ++ then.input;
    notes = first.notes ++ then.notes;
    output = first.output ++ then.output;
    frames = frames_more z u.number n m first.input then.input first.notes then.notes first.output then.output first.frames (subst (λ (k : ℕ). AreFrames z k m then.input then.notes then.output) first.number then.frames);
    last_input = then.last_input;
    last_notes = then.last_notes;
    unwritten = subst (λ (k : ℕ). IsUnwritten z k e then.last_input then.last_notes) first.number then.unwritten;
    read = λ t. first.read t ∙ (ap (λ (l : List ℕ). (first.input ++ l) ++ b.left) first.unwritten.0 ∙ (ap (λ (l : List ℕ). l ++ b.left) (append-nil first.input) ∙ (ap (λ (l : List ℕ). first.input ++ l) (then.read t)
        ∙ (sym (append_assoc first.input (then.input ++ then.last_input) c.left) ∙ ap (λ (l : List ℕ). l ++ c.left) (sym (append_assoc first.input then.input then.last_input))))));
    written = λ t. then.written t ∙ (ap (λ (l : List ℕ). l ++ then.output) (first.written t) ∙ append_assoc a.written first.output then.output);
    number = then.number ∙ first.number;
    frame = let x = first.frame in let y = then.frame in omega arith;
    noted = then.noted ∙ (ap (λ (l : List Note). l ++ (then.notes ++ then.last_notes)) (first.noted ∙ (ap (λ (l : List Note). u.notes ++ (first.notes ++ l)) first.unwritten.1 ∙ ap (λ (l : List Note). u.notes ++ l) (append-nil first.notes)))
        ∙ (append_assoc u.notes first.notes (then.notes ++ then.last_notes) ∙ ap (λ (l : List Note). u.notes ++ l) (sym (append_assoc first.notes then.notes then.last_notes))));
  }

pub counted : (e : LinesEnd) (n m : ℕ) → carried e (n + m) ≡ n + carried e m
counted End n m = refl
counted ReadFault n m = refl
counted WriteFault n m = omega arith
counted Stopped n m = refl
counted Spent n m = refl
