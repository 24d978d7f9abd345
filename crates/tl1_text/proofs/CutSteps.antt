-- One byte more of a unit that is being cut.
use Rattle.std.proofs.Common.{◌≡◌, ℕ, ◌+◌, ◌<◌, ◌≤◌, Bool, true, false, List, [], ◌∷◌, ◌++◌, length, map, drop, get_or, slice_range, nat_le, ◌&&◌, ◌==◌, if◌then◌else◌, Option, Some, None, refl, sym, ◌∙◌, ap, subst, append_assoc, append-nil, length-append, arith}
use Rattle.std.specs.Option.{option_map, option_and_then}
use Rattle.std.specs.List.{All, list_all}
use Rattle.std.proofs.lemmas.Bool.Decides.{nat_tests}
use Rattle.std.proofs.lemmas.List.{map-append, length-map, drop_all}
use Rattle.std.proofs.lemmas.List.Elements.{All-append, All-cons, All-nil}
use Rattle.std.proofs.lemmas.List.Folds.{list_all-append}
use Rattle.tl1_text.specs.Places.{Place, Start}
use Rattle.tl1_text.specs.declared.span.Span.{Span}
use Rattle.tl1_text.specs.Grammar.{Block, are_few, code_of}
use Rattle.tl1_text.specs.Walk.{is_outside, after, Rest, nothing, all_blocks, with_colon, with_comma, with_byte, walk, are_words, are_command, if_command, blocks_of}
use Rattle.tl1_text.specs.Spans.{IsIn, text_at}
use Rattle.tl1_text.specs.Cuts.{resumed, reading, Cutting, IsCutTo, IsCut}
use Rattle.tl1_text.proofs.Walks.{map_twice, both}
use Rattle.tl1_text.proofs.Finds.{valued, grow}
use Rattle.tl1_text.proofs.Slices.{drop_first, slice_none, slice_more}

-- a unit is refused where nothing that is still to come makes it a command
refused : (unit : List ℕ) (f : Rest → List Block) (o : Option Rest) → reading unit ≡ option_map f o → ((r : Rest) → are_command (f r) ≡ false) → blocks_of unit ≡ None
unfolding blocks_of
refused unit f None is never = ap (λ (o : Option (List Block)). option_and_then if_command o) is
refused unit f (Some r) is never = ap (λ (o : Option (List Block)). option_and_then if_command o) is ∙ ap (λ (c : Bool). if c then Some (f r) else None) (never r)

and_false : (a b : Bool) → b ≡ false → (a && b) ≡ false
and_false true b is = is
and_false false b is = refl

false_and : (a b : Bool) → a ≡ false → (a && b) ≡ false
false_and a b is = rw is (refl)

-- more than ten blocks are no command
too_many : (bs : List Block) → 10 < length bs → are_command bs ≡ false
too_many bs many =
    let test : nat_le (length bs) 10 ≡ false = grind (arith, nat_tests, many) in
    false_and (nat_le 4 (length bs) && nat_le (length bs) 10 && list_all are_few bs) (are_words 3 false (code_of bs)) (false_and (nat_le 4 (length bs) && nat_le (length bs) 10) (list_all are_few bs) (and_false (nat_le 4 (length bs)) (nat_le (length bs) 10) test))

-- nor are blocks one of which has more than eight parameters
too_long : (done others : List Block) (b : Block) → 8 < length b.values → are_command (done ++ b ∷ others) ≡ false
too_long done others b many =
    let bs : List Block = done ++ b ∷ others in
    let test : nat_le (length b.values) 8 ≡ false = grind (arith, nat_tests, many) in
    let few : list_all are_few bs ≡ false = list_all-append are_few done (b ∷ others) ∙ and_false (list_all are_few done) (are_few b && list_all are_few others) (false_and (are_few b) (list_all are_few others) test) in
    false_and (nat_le 4 (length bs) && nat_le (length bs) 10 && list_all are_few bs) (are_words 3 false (code_of bs)) (and_false (nat_le 4 (length bs) && nat_le (length bs) 10) (list_all are_few bs) few)

one_in : {X : Type 0} (P : X → Type 0) (x : X) → P x → All P (x ∷ [])
one_in P x is = All-cons P x [] is (All-nil P)

no_list : {X : Type 0} (xs : List X) → length xs ≡ 0 → xs ≡ []
no_list [] is = refl
no_list (x ∷ xs) is = absurd (omega (arith, is))

first_code : (done : List Block) (b : Block) (bs : List Block) → done ≡ [] → code_of (done ++ b ∷ bs) ≡ b.text
first_code [] b bs is = refl
first_code (d ∷ done) b bs is = cc

module _ (unit : List ℕ) (at : ℕ) (c : Cutting) (cut : IsCutTo unit at c) where
  -- as many blocks are done as spans were found
  as_many : length cut.done ≡ length c.found
  as_many = sym (length-map cut.done (λ (b : Block). b.text)) ∙ ap length (sym cut.texts) ∙ length-map c.found (text_at unit)

  module _ (lt : at < length unit) where
    text_more : slice_range unit c.start (at + 1) ≡ slice_range unit c.start at ++ get_or unit at 0 ∷ []
    text_more = slice_more unit c.start at cut.forwards lt

    goes_on : reading unit ≡ option_map (resumed cut.done (slice_range unit c.start at) cut.values cut.value) (walk c.place (get_or unit at 0 ∷ drop (at + 1) unit))
    goes_on = cut.goes_on ∙ ap (λ (l : List ℕ). option_map (resumed cut.done (slice_range unit c.start at) cut.values cut.value) (walk c.place l)) (drop_first unit at lt)

    abbrev here : Rest → List Block
    here = resumed cut.done (slice_range unit c.start at) cut.values cut.value

    at_colon : (is_outside c.place && (get_or unit at 0 == 58)) ≡ true → reading unit ≡ option_map here (option_map with_colon (walk Start (drop (at + 1) unit)))
    at_colon is = rw is at goes_on

    at_comma : (is_outside c.place && (get_or unit at 0 == 58)) ≡ false → (is_outside c.place && (get_or unit at 0 == 44)) ≡ true → reading unit ≡ option_map here (option_map with_comma (walk Start (drop (at + 1) unit)))
    at_comma colon is = rw (colon, is) at goes_on

    at_byte : (is_outside c.place && (get_or unit at 0 == 58)) ≡ false → (is_outside c.place && (get_or unit at 0 == 44)) ≡ false
        → reading unit ≡ option_map here (option_and_then (λ p. option_map (λ r. with_byte (get_or unit at 0) r) (walk p (drop (at + 1) unit))) (after c.place (get_or unit at 0)))
    at_byte colon comma = rw (colon, comma) at goes_on

    -- an eleventh block
    pub eleventh : (is_outside c.place && (get_or unit at 0 == 58)) ≡ true → 9 ≤ length c.found → blocks_of unit ≡ None
    eleventh is full =
        refused unit (λ r. here (with_colon r)) (walk Start (drop (at + 1) unit)) (at_colon is ∙ map_twice here with_colon (λ r. here (with_colon r)) (walk Start (drop (at + 1) unit)) (λ r. refl))
        (λ r. too_many (here (with_colon r)) (omega (arith, full, as_many, length-append cut.done (record { text = slice_range unit c.start at ++ []; values = cut.values ++ (cut.value ++ []) ∷ [] } ∷ all_blocks r))))

    -- a ninth parameter
    pub ninth : (is_outside c.place && (get_or unit at 0 == 58)) ≡ false → (is_outside c.place && (get_or unit at 0 == 44)) ≡ true → c.params ≡ 8 → blocks_of unit ≡ None
    ninth colon is full =
        refused unit (λ r. here (with_comma r)) (walk Start (drop (at + 1) unit)) (at_comma colon is ∙ map_twice here with_comma (λ r. here (with_comma r)) (walk Start (drop (at + 1) unit)) (λ r. refl))
        (λ r. too_long cut.done r.others (record { text = slice_range unit c.start at ++ (44 ∷ r.text); values = cut.values ++ (cut.value ++ []) ∷ r.value ∷ r.values }) (omega (arith, full, cut.count, length-append cut.values ((cut.value ++ []) ∷ r.value ∷ r.values))))

    -- a byte that can't stand here
    pub stray : (is_outside c.place && (get_or unit at 0 == 58)) ≡ false → (is_outside c.place && (get_or unit at 0 == 44)) ≡ false → after c.place (get_or unit at 0) ≡ None → blocks_of unit ≡ None
    unfolding blocks_of
    stray colon comma none = ap (λ (o : Option (List Block)). option_and_then if_command o) (at_byte colon comma ∙ ap (λ (o : Option Place). option_map here (option_and_then (λ p. option_map (λ r. with_byte (get_or unit at 0) r) (walk p (drop (at + 1) unit))) o)) none)

    -- the block in hand ends
    pub next_block : (is_outside c.place && (get_or unit at 0 == 58)) ≡ true → (found : List Span) → found ≡ c.found ++ record { start = c.start; end = at } ∷ []
        → IsCutTo unit (at + 1) (record { found = found; start = at + 1; params = 1; place = Start })
    next_block is found found_is =
        let none = slice_none unit (at + 1) in
        let count : length (cut.values ++ cut.value ∷ []) ≡ c.params = omega (arith, cut.count, length-append cut.values (cut.value ∷ [])) in
        let few : nat_le (length (cut.values ++ cut.value ∷ [])) 8 ≡ true = grind (arith, nat_tests, count, cut.most) in
        record {
          done = cut.done ++ record { text = slice_range unit c.start at; values = cut.values ++ cut.value ∷ [] } ∷ [];
          values = [];
          value = [];
          goes_on = at_colon is ∙ map_twice here with_colon (resumed (cut.done ++ record { text = slice_range unit c.start at; values = cut.values ++ cut.value ∷ [] } ∷ []) (slice_range unit (at + 1) (at + 1)) [] []) (walk Start (drop (at + 1) unit))
              (λ r. rw (none, append-nil (slice_range unit c.start at), append-nil cut.value) (sym (append_assoc cut.done (record { text = slice_range unit c.start at; values = cut.values ++ cut.value ∷ [] } ∷ []) (all_blocks r))));
          texts = ap (λ (l : List Span). map (text_at unit) l) found_is ∙ map-append (text_at unit) c.found (record { start = c.start; end = at } ∷ [])
              ∙ ap (λ (l : List (List ℕ)). l ++ slice_range unit c.start at ∷ []) cut.texts
              ∙ sym (map-append (λ (b : Block). b.text) cut.done (record { text = slice_range unit c.start at; values = cut.values ++ cut.value ∷ [] } ∷ []));
          few = list_all-append are_few cut.done (record { text = slice_range unit c.start at; values = cut.values ++ cut.value ∷ [] } ∷ []) ∙ (rw (cut.few, few) (refl));
          count = refl;
          most = omega arith;
          forwards = omega arith;
          within = omega (arith, lt);
          each = subst (λ (l : List Span). All (IsIn unit) l) (sym found_is) (All-append (IsIn unit) c.found (record { start = c.start; end = at } ∷ []) cut.each (one_in (IsIn unit) (record { start = c.start; end = at }) (record { forwards = cut.forwards; within = cut.within })));
        }

    -- the parameter in hand ends
    pub next_param : (is_outside c.place && (get_or unit at 0 == 58)) ≡ false → (is_outside c.place && (get_or unit at 0 == 44)) ≡ true → c.params < 8
        → IsCutTo unit (at + 1) (record { found = c.found; start = c.start; params = c.params + 1; place = Start })
    next_param colon is more =
        let comma : get_or unit at 0 ≡ 44 = (let test : (get_or unit at 0 == 44) ≡ true = (both (is_outside c.place) (get_or unit at 0 == 44) is).1 in grind (arith, nat_tests, test)) in
        let text : slice_range unit c.start (at + 1) ≡ slice_range unit c.start at ++ 44 ∷ [] = text_more ∙ ap (λ (n : ℕ). slice_range unit c.start at ++ n ∷ []) comma in
        record {
          done = cut.done;
          values = cut.values ++ cut.value ∷ [];
          value = [];
          goes_on = at_comma colon is ∙ map_twice here with_comma (resumed cut.done (slice_range unit c.start (at + 1)) (cut.values ++ cut.value ∷ []) []) (walk Start (drop (at + 1) unit))
              (λ r. rw (text, append_assoc (slice_range unit c.start at) (44 ∷ []) r.text, append_assoc cut.values (cut.value ∷ []) (r.value ∷ r.values), append-nil cut.value) (refl));
          texts = cut.texts;
          few = cut.few;
          count = omega (arith, cut.count, length-append cut.values (cut.value ∷ []));
          most = omega (arith, more);
          forwards = omega (arith, cut.forwards);
          within = omega (arith, lt);
          each = cut.each;
        }

    -- a byte more of the parameter in hand
    pub next_byte : (next : Place) → (is_outside c.place && (get_or unit at 0 == 58)) ≡ false → (is_outside c.place && (get_or unit at 0 == 44)) ≡ false → after c.place (get_or unit at 0) ≡ Some next
        → IsCutTo unit (at + 1) (record { found = c.found; start = c.start; params = c.params; place = next })
    next_byte next colon comma is =
        record {
          done = cut.done;
          values = cut.values;
          value = valued cut.value (get_or unit at 0);
          goes_on = at_byte colon comma ∙ ap (λ (o : Option Place). option_map here (option_and_then (λ p. option_map (λ r. with_byte (get_or unit at 0) r) (walk p (drop (at + 1) unit))) o)) is
              ∙ map_twice here (λ r. with_byte (get_or unit at 0) r) (resumed cut.done (slice_range unit c.start (at + 1)) cut.values (valued cut.value (get_or unit at 0))) (walk next (drop (at + 1) unit))
              (λ r. rw (text_more, append_assoc (slice_range unit c.start at) (get_or unit at 0 ∷ []) r.text, grow (get_or unit at 0 == 34) cut.value r.value (get_or unit at 0)) (refl));
          texts = cut.texts;
          few = cut.few;
          count = cut.count;
          most = cut.most;
          forwards = omega (arith, cut.forwards);
          within = omega (arith, lt);
          each = cut.each;
        }

    -- a first block that is no code
    module _ (none : c.found ≡ []) (bad : (t : List ℕ) → are_words 3 false (slice_range unit c.start at ++ get_or unit at 0 ∷ t) ≡ false)
        (ends : (get_or unit at 0 == 58) ≡ true → are_words 3 false (slice_range unit c.start at) ≡ false) where
      nothing_done : cut.done ≡ []
      nothing_done = no_list cut.done (as_many ∙ ap length none)

      never : (text : List ℕ) (vs : List (List ℕ)) (bs : List Block) → are_words 3 false text ≡ false → are_command (cut.done ++ record { text = text; values = vs } ∷ bs) ≡ false
      never text vs bs is =
          let all : List Block = cut.done ++ record { text = text; values = vs } ∷ bs in
          and_false (nat_le 4 (length all) && nat_le (length all) 10 && list_all are_few all) (are_words 3 false (code_of all)) (ap (λ (l : List ℕ). are_words 3 false l) (first_code cut.done (record { text = text; values = vs }) bs nothing_done) ∙ is)

      no_code_by : (o : Option Place) → (is_outside c.place && (get_or unit at 0 == 58)) ≡ false → (is_outside c.place && (get_or unit at 0 == 44)) ≡ false → after c.place (get_or unit at 0) ≡ o → blocks_of unit ≡ None
      no_code_by None colon comma is = stray colon comma is
      no_code_by (Some next) colon comma is =
          refused unit (λ r. here (with_byte (get_or unit at 0) r)) (walk next (drop (at + 1) unit))
          (at_byte colon comma ∙ ap (λ (o : Option Place). option_map here (option_and_then (λ p. option_map (λ r. with_byte (get_or unit at 0) r) (walk p (drop (at + 1) unit))) o)) is
          ∙ map_twice here (λ r. with_byte (get_or unit at 0) r) (λ r. here (with_byte (get_or unit at 0) r)) (walk next (drop (at + 1) unit)) (λ r. refl))
          (λ r. never (slice_range unit c.start at ++ get_or unit at 0 ∷ r.text) (cut.values ++ (cut.value ++ (with_byte (get_or unit at 0) r).value) ∷ r.values) r.others (bad r.text))

      no_code_at : (colon comma : Bool) → (is_outside c.place && (get_or unit at 0 == 58)) ≡ colon → (is_outside c.place && (get_or unit at 0 == 44)) ≡ comma → blocks_of unit ≡ None
      no_code_at true comma colon_is comma_is =
          refused unit (λ r. here (with_colon r)) (walk Start (drop (at + 1) unit)) (at_colon colon_is ∙ map_twice here with_colon (λ r. here (with_colon r)) (walk Start (drop (at + 1) unit)) (λ r. refl))
          (λ r. never (slice_range unit c.start at ++ []) (cut.values ++ (cut.value ++ []) ∷ []) (all_blocks r) (rw (append-nil (slice_range unit c.start at)) (ends (both (is_outside c.place) (get_or unit at 0 == 58) colon_is).1)))
      no_code_at false true colon_is comma_is =
          let is : get_or unit at 0 ≡ 44 = (let test : (get_or unit at 0 == 44) ≡ true = (both (is_outside c.place) (get_or unit at 0 == 44) comma_is).1 in grind (arith, nat_tests, test)) in
          refused unit (λ r. here (with_comma r)) (walk Start (drop (at + 1) unit)) (at_comma colon_is comma_is ∙ map_twice here with_comma (λ r. here (with_comma r)) (walk Start (drop (at + 1) unit)) (λ r. refl))
          (λ r. never (slice_range unit c.start at ++ 44 ∷ r.text) (cut.values ++ (cut.value ++ []) ∷ r.value ∷ r.values) r.others (subst (λ (n : ℕ). are_words 3 false (slice_range unit c.start at ++ n ∷ r.text) ≡ false) is (bad r.text)))
      no_code_at false false colon_is comma_is = no_code_by (after c.place (get_or unit at 0)) colon_is comma_is refl

      pub no_code : blocks_of unit ≡ None
      no_code = no_code_at (is_outside c.place && (get_or unit at 0 == 58)) (is_outside c.place && (get_or unit at 0 == 44)) refl refl

  -- after the last byte
  module _ (last : length unit ≡ at) where
    at_end : reading unit ≡ option_map (resumed cut.done (slice_range unit c.start at) cut.values cut.value) (if is_outside c.place then Some nothing else None)
    at_end = cut.goes_on ∙ ap (λ (l : List ℕ). option_map (resumed cut.done (slice_range unit c.start at) cut.values cut.value) (walk c.place l)) (drop_all at unit (omega (arith, last)))

    pub in_quotes : is_outside c.place ≡ false → blocks_of unit ≡ None
    unfolding blocks_of
    in_quotes is = ap (λ (o : Option (List Block)). option_and_then if_command o) (rw is at at_end)

    pub all_cut : is_outside c.place ≡ true → (found : List Span) → found ≡ c.found ++ record { start = c.start; end = at } ∷ [] → IsCut unit found
    all_cut is found found_is =
        let last_block : Block = record { text = slice_range unit c.start at; values = cut.values ++ cut.value ∷ [] } in
        let count : length (cut.values ++ cut.value ∷ []) ≡ c.params = omega (arith, cut.count, length-append cut.values (cut.value ∷ [])) in
        let few : nat_le (length (cut.values ++ cut.value ∷ [])) 8 ≡ true = grind (arith, nat_tests, count, cut.most) in
        let read : reading unit ≡ Some (resumed cut.done (slice_range unit c.start at) cut.values cut.value nothing) = rw is at at_end in
        record {
          blocks = cut.done ++ last_block ∷ [];
          is_read = rw (append-nil (slice_range unit c.start at), append-nil cut.value) at read;
          texts = ap (λ (l : List Span). map (text_at unit) l) found_is ∙ map-append (text_at unit) c.found (record { start = c.start; end = at } ∷ [])
              ∙ ap (λ (l : List (List ℕ)). l ++ slice_range unit c.start at ∷ []) cut.texts
              ∙ sym (map-append (λ (b : Block). b.text) cut.done (last_block ∷ []));
          few = list_all-append are_few cut.done (last_block ∷ []) ∙ (rw (cut.few, few) (refl));
          each = subst (λ (l : List Span). All (IsIn unit) l) (sym found_is) (All-append (IsIn unit) c.found (record { start = c.start; end = at } ∷ []) cut.each (one_in (IsIn unit) (record { start = c.start; end = at }) (record { forwards = cut.forwards; within = cut.within })));
        }

map_as : {A B : Type 0} (f g : A → B) (o : Option A) → ((x : A) → f x ≡ g x) → option_map f o ≡ option_map g o
map_as f g None e = refl
map_as f g (Some x) e = ap Some (e x)

-- nothing is cut at the first byte
pub cut_none : (unit : List ℕ) → IsCutTo unit 0 (record { found = []; start = 0; params = 1; place = Start })
cut_none unit = record {
  done = [];
  values = [];
  value = [];
  goes_on = map_as all_blocks (resumed [] [] [] []) (walk Start unit) (λ r. refl);
  texts = refl;
  few = refl;
  count = refl;
  most = omega arith;
  forwards = omega arith;
  within = omega arith;
  each = All-nil (IsIn unit);
}
