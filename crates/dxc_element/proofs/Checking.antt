-- Rows are written one after the other, and what comes after them.
use Rattle.std.proofs.Common.{◌≡◌, ◌<◌, ◌+◌, ℕ, Bool, true, false, if◌then◌else◌, List, [], ◌∷◌, ◌++◌, length, take, drop, slice_index_or, refl, sym, ◌∙◌, ap, subst, arith, append_assoc, append-nil, take-append-drop}
use Rattle.std.specs.Prelude.{filter}
use Rattle.std.specs.List.{AllByRecursion, flat_map}
use Rattle.dxc_num.specs.Dimensions.{Dimensions, IsPort}
use Rattle.tl1_answer.specs.Texts.{IsOfShape}
use Rattle.dxc_model.specs.declared.conn.Conn.{Conn}
use Rattle.dxc_element.specs.Listings.{row_line, count_line, listing}
use Rattle.std.proofs.lemmas.Grind.{flat_map-append}
use Rattle.std.proofs.lemmas.List.{take_more}
use Rattle.dxc_outside.specs.declared.send.Sent.{Sent}
use Rattle.dxc_outside.specs.declared.send.Sent.TheVariants.{Whole, Cut}
use Rattle.dxc_outside.specs.Links.{LinkState, IsSent}
use Rattle.dxc_outside.proofs.LinkSteps.{wrote_none, wrote_more, sent_whole}

pub sent_none : (told : Type 0) (k : LinkState) → IsSent told k k Whole []
sent_none told k = record { part = []; rest = []; split = refl; wrote = wrote_none told k; whole = λ _. refl; cause = record { later = omega arith; cause = λ is. cc }; no_fault = λ _. refl }

-- more was written after it
pub sent_more : (told : Type 0) (k j m : LinkState) (xs ys : List ℕ) (sent : Sent) → IsSent told k j Whole xs → IsSent told j m sent ys → IsSent told k m sent (xs ++ ys)
sent_more told k j m xs ys sent first next = record {
  part = xs ++ next.part;
  rest = next.rest;
  split = ap (λ (l : List ℕ). xs ++ l) next.split ∙ sym (append_assoc xs next.part next.rest);
  wrote = wrote_more told k j m xs next.part (sent_whole told k j xs first) next.wrote;
  whole = next.whole;
  cause = record { later = omega (arith, first.cause.later, next.cause.later); cause = λ is. let rose = next.cause.cause is in omega (arith, first.cause.later, rose) };
  no_fault = λ is. next.no_fault is ∙ first.no_fault refl;
}

-- nothing was written after what was cut
pub sent_cut : (told : Type 0) (k m : LinkState) (xs ys : List ℕ) (sent : Sent) → sent ≡ Cut → IsSent told k m sent xs → IsSent told k m Cut (xs ++ ys)
sent_cut told k m xs ys sent is s = record {
  part = s.part;
  rest = s.rest ++ ys;
  split = ap (λ (l : List ℕ). l ++ ys) s.split ∙ append_assoc s.part s.rest ys;
  wrote = s.wrote;
  whole = λ no. cc;
  cause = record { later = s.cause.later; cause = λ _. s.cause.cause is };
  no_fault = λ no. cc;
}

pub sent_is : (told : Type 0) (k m : LinkState) (xs : List ℕ) (sent : Sent) → sent ≡ Whole → IsSent told k m sent xs → IsSent told k m Whole xs
sent_is told k m xs sent is s = subst (λ (x : Sent). IsSent told k m x xs) is s

module _ {X : Type 0} (f : X → List ℕ) (d : X) (rows : List X) (at : ℕ) (lt : at < length rows) where
  one_more : flat_map f (take (at + 1) rows) ≡ flat_map f (take at rows) ++ f (slice_index_or rows at d)
  one_more = ap (λ (xs : List X). flat_map f xs) (take_more rows at d lt) ∙ flat_map-append f (take at rows) (slice_index_or rows at d ∷ []) ∙ ap (λ (l : List ℕ). flat_map f (take at rows) ++ l) (append-nil (f (slice_index_or rows at d)))

  all_rows : flat_map f (take (at + 1) rows) ++ flat_map f (drop (at + 1) rows) ≡ flat_map f rows
  all_rows = sym (flat_map-append f (take (at + 1) rows) (drop (at + 1) rows)) ∙ ap (λ (xs : List X). flat_map f xs) (take-append-drop (at + 1) rows)

  -- one row more
  pub row_sent : (told : Type 0) (k j m : LinkState) (sent : Sent) (l : List ℕ) → l ≡ f (slice_index_or rows at d) → IsSent told k j Whole (flat_map f (take at rows)) → IsSent told j m sent l → IsSent told k m sent (flat_map f (take (at + 1) rows))
  row_sent told k j m sent l is first next = rw (one_more, sym is) (sent_more told k j m (flat_map f (take at rows)) l sent first next)

  -- and it was cut
  pub row_cut : (told : Type 0) (k j m : LinkState) (sent : Sent) (l : List ℕ) → sent ≡ Cut → l ≡ f (slice_index_or rows at d) → IsSent told k j Whole (flat_map f (take at rows)) → IsSent told j m sent l → IsSent told k m Cut (flat_map f rows)
  row_cut told k j m sent l cut is first next =
      subst (λ (ls : List ℕ). IsSent told k m Cut ls) all_rows
      (sent_cut told k m (flat_map f (take (at + 1) rows)) (flat_map f (drop (at + 1) rows)) sent cut (row_sent told k j m sent l is first next))

with_test : (d : Dimensions) (b : Bool) (c : Conn) (cs : List Conn) → IsPort d c.from × IsPort d c.to → AllByRecursion (IsOfShape d) cs → AllByRecursion (IsOfShape d) (if b then c ∷ cs else cs)
with_test d true c cs p all = (record { from = p.0; to = p.1 }, all)
with_test d false c cs p all = all

-- the rows of a table are of its shape
pub listed : (d : Dimensions) (keep : Conn → Bool) (cs : List Conn) → AllByRecursion (λ c. IsPort d c.from × IsPort d c.to) cs → AllByRecursion (IsOfShape d) (filter keep cs)
listed d keep [] all = tt
listed d keep (c ∷ cs) all = with_test d (keep c) c (filter keep cs) all.0 (listed d keep cs all.1)

-- rows and their number
pub listing_sent : (told : Type 0) (k j m : LinkState) (d e : Dimensions) (cs ds : List Conn) (n records : ℕ) (first sent : Sent) → d ≡ e → cs ≡ ds → n ≡ records → first ≡ Whole → IsSent told k j first (flat_map (row_line d) cs)
    → IsSent told j m sent (count_line n) → IsSent told k m sent (listing e ds records)
listing_sent told k j m d e cs ds n records first sent shape rows number whole lines last =
    subst (λ (x : Dimensions). IsSent told k m sent (listing x ds records)) shape
    (subst (λ (x : List Conn). IsSent told k m sent (listing d x records)) rows
    (subst (λ (x : ℕ). IsSent told k m sent (listing d cs x)) number (sent_more told k j m (flat_map (row_line d) cs) (count_line n) sent (sent_is told k j (flat_map (row_line d) cs) first whole lines) last)))
