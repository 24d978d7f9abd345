-- Completion codes, response by response.
use Rattle.std.proofs.Common.{◌≡◌, ◌≢◌, get_or, ◌+◌, ◌-◌, ◌<◌, ◌≤◌, ◌⊎◌, inl, inr, ℕ, zero, suc, arith, Bool, true, false, if◌then◌else◌, ◌==◌, List, [], ◌∷◌, ◌++◌, length, length-append, take, drop, slice_range, refl, sym, ap, ap₂, subst, ◌∙◌}
use Rattle.std.specs.Prelude.{slice_index}
use Rattle.std.proofs.Math.Seq.{take-length}
use Rattle.std.proofs.lemmas.Bool.{eqb-true}
use Rattle.std.proofs.lemmas.Bool.Decides.{nat_tests}
use Rattle.std.proofs.lemmas.List.{drop_all, length-drop, nil_from_length, take-append-drop, take_all, take_more, take_rest}
use Rattle.dxc_load.specs.Codes.{Spot, Login, Front, Tag, Code, Rest, HasNoCode, HasNone, IsBehind, IsNextCode, codes_at, coded_from, next_spot}

-- no byte of those before a place has the value
pub none_before : (byte at : ℕ) (text : List ℕ) → at ≤ length text → ((k : ℕ) → 0 ≤ k → k < at → (slice_index text k == byte) ≡ true → ⊥) → HasNone byte (take at text)
none_before byte zero text in_text none = tt
none_before byte (suc at) [] in_text none = absurd (omega (arith, in_text))
none_before byte (suc at) (b ∷ bs) in_text none = (
  not_that (b == byte) (none 0 (omega arith) (omega arith)),
  none_before byte at bs (omega (arith, in_text)) (λ k low high is. none (suc k) (omega arith) (omega (arith, high)) is),
)
  where
    not_that : (t : Bool) → (t ≡ true → ⊥) → t ≡ false
    not_that true never = absurd (never refl)
    not_that false never = refl

-- at one spot a byte is waited for, and leads to another
module _ (letter byte : ℕ) (here there : Spot) (waits : (b : ℕ) → next_spot here b ≡ (if b == byte then there else here)) (uncoded : (b : ℕ) → codes_at letter here b ≡ 0) where
  passed : (b : ℕ) (bs : List ℕ) → (b == byte) ≡ false → coded_from letter here (b ∷ bs) ≡ coded_from letter here bs
  passed b bs other =
      let stays : next_spot here b ≡ here = waits b ∙ ap (λ (t : Bool). if t then there else here) other in
      let e = ap (λ (s : Spot). coded_from letter s bs) stays in
      let none = uncoded b in omega (arith, e, none)

  waited_for : (bs : List ℕ) → (byte == byte) ≡ true → coded_from letter here (byte ∷ bs) ≡ coded_from letter there bs
  waited_for bs same =
      let goes : next_spot here byte ≡ there = waits byte ∙ ap (λ (t : Bool). if t then there else here) same in
      let e = ap (λ (s : Spot). coded_from letter s bs) goes in
      let none = uncoded byte in omega (arith, e, none)

  none_coded : (bs : List ℕ) → HasNone byte bs → coded_from letter here bs ≡ 0
  none_coded [] none = refl
  none_coded (b ∷ bs) none = passed b bs none.0 ∙ none_coded bs none.1

  behind_coded : (front rest : List ℕ) → HasNone byte front → (byte == byte) ≡ true → coded_from letter here (front ++ byte ∷ rest) ≡ coded_from letter there rest
  behind_coded [] rest none same = waited_for rest same
  behind_coded (b ∷ bs) rest none same = passed b (bs ++ byte ∷ rest) none.0 ∙ behind_coded bs rest none.1 same

pub none_ends : (letter : ℕ) (text : List ℕ) → HasNone 59 text → coded_from letter Rest text ≡ 0
none_ends letter = none_coded letter 59 Rest (Front 32) (λ b. refl) (λ b. refl)

pub behind_end : (letter : ℕ) (front rest : List ℕ) → HasNone 59 front → coded_from letter Rest (front ++ 59 ∷ rest) ≡ coded_from letter (Front 32) rest
behind_end letter front rest none = behind_coded letter 59 Rest (Front 32) (λ b. refl) (λ b. refl) front rest none refl

pub none_blank : (letter : ℕ) (text : List ℕ) → HasNone 32 text → coded_from letter Tag text ≡ 0
none_blank letter = none_coded letter 32 Tag Code (λ b. refl) (λ b. refl)

pub behind_blank : (letter : ℕ) (front rest : List ℕ) → HasNone 32 front → coded_from letter Tag (front ++ 32 ∷ rest) ≡ coded_from letter Code rest
behind_blank letter front rest none = behind_coded letter 32 Tag Code (λ b. refl) (λ b. refl) front rest none refl

-- what stands before a tag
pub behind_front : (letter n : ℕ) (text : List ℕ) → coded_from letter (Front n) text ≡ coded_from letter Tag (drop (suc n) text)
behind_front letter zero [] = refl
behind_front letter zero (b ∷ bs) = let e : 0 + coded_from letter Tag bs ≡ coded_from letter Tag bs = omega arith in e
behind_front letter (suc n) [] = refl
behind_front letter (suc n) (b ∷ bs) = let e = behind_front letter n bs in omega (arith, e)

-- the log-in's response ends as any
pub login_rests : (letter : ℕ) (text : List ℕ) → coded_from letter Login text ≡ coded_from letter Rest text
login_rests letter [] = refl
login_rests letter (b ∷ bs) = by_end (b == 59) (login_rests letter bs)
  where
    by_end : (t : Bool) → coded_from letter Login bs ≡ coded_from letter Rest bs → 0 + coded_from letter (if t then Front 32 else Login) bs ≡ 0 + coded_from letter (if t then Front 32 else Rest) bs
    by_end true rests = refl
    by_end false rests = ap (λ (n : ℕ). 0 + n) rests

-- what stands after a byte is found at its place
pub none_in : (byte : ℕ) (text : List ℕ) → ((k : ℕ) → 0 ≤ k → k < length text → (slice_index text k == byte) ≡ true → ⊥) → HasNone byte text
none_in byte text none = subst (HasNone byte) (take-length text) (none_before byte (length text) text (omega arith) none)

drop_next : (at : ℕ) (text : List ℕ) → at < length text → drop at text ≡ slice_index text at ∷ drop (at + 1) text
drop_next at [] lt = absurd (omega (arith, lt))
drop_next zero (b ∷ bs) lt = refl
drop_next (suc at) (b ∷ bs) lt =
    let more : suc (at + 1) ≡ suc at + 1 = omega arith in
    drop_next at bs (omega (arith, lt)) ∙ ap (λ (n : ℕ). slice_index bs at ∷ drop n (b ∷ bs)) more

pub parted_at : (byte at : ℕ) (text : List ℕ) → at < length text → (slice_index text at == byte) ≡ true → text ≡ take at text ++ byte ∷ take (length text - (at + 1)) (drop (at + 1) text)
parted_at byte at text lt is =
    let that : slice_index text at ≡ byte = eqb-true (slice_index text at) byte is in
    sym (take-append-drop at text) ∙ ap (λ (xs : List ℕ). take at text ++ xs) (drop_next at text lt ∙ ap₂ (λ (b : ℕ) (bs : List ℕ). b ∷ bs) that (sym (take_rest text (at + 1))))

-- the same, byte by byte
none_joined : (byte : ℕ) (xs ys : List ℕ) → HasNone byte xs → HasNone byte ys → HasNone byte (xs ++ ys)
none_joined byte [] ys first next = next
none_joined byte (x ∷ xs) ys first next = (first.0, none_joined byte xs ys first.1 next)

pub none_further : (byte : ℕ) (text : List ℕ) (at : ℕ) → at < length text → HasNone byte (take at text) → get_or text at 0 ≢ byte → HasNone byte (take (at + 1) text)
none_further byte text at lt none other =
    let not : (get_or text at 0 == byte) ≡ false = grind (arith, nat_tests, other) in
    subst (HasNone byte) (sym (take_more text at 0 lt)) (none_joined byte (take at text) (get_or text at 0 ∷ []) none (not, tt))

pub none_whole : (byte : ℕ) (text : List ℕ) (at : ℕ) → length text ≤ at → HasNone byte (take at text) → HasNone byte text
none_whole byte text at all none = subst (HasNone byte) (take_all at text all) none

pub parted_where : (byte at : ℕ) (text : List ℕ) → at < length text → get_or text at 0 ≡ byte → text ≡ take at text ++ byte ∷ take (length text - (at + 1)) (drop (at + 1) text)
parted_where byte at text lt is = let same : (get_or text at 0 == byte) ≡ true = grind (arith, nat_tests, is) in parted_at byte at text lt same

-- a code that isn't there, and the next one
module _ (text : List ℕ) where
  pub ends_without : HasNone 59 text → HasNoCode text
  ends_without none letter = none_ends letter text none

  module _ (response : List ℕ) (ended : IsBehind 59 text response) where
    response_coded : (letter : ℕ) → coded_from letter Rest text ≡ coded_from letter Tag (drop 33 response)
    response_coded letter = ap (coded_from letter Rest) ended.2 ∙ behind_end letter ended.0 response ended.1 ∙ behind_front letter 32 response

    pub front_without : (length response < 33) ⊎ (length response < length response) → HasNoCode text
    front_without (inl short) letter = let none : drop 33 response ≡ [] = drop_all 33 response (omega (arith, short)) in response_coded letter ∙ ap (coded_from letter Tag) none
    front_without (inr never) letter = absurd (omega (arith, never))

    module _ (tag : List ℕ) (passed : tag ≡ slice_range response 33 (length response)) where
      tag_is : tag ≡ drop 33 response
      tag_is = passed ∙ take_rest response 33

      tag_coded : (letter : ℕ) → coded_from letter Rest text ≡ coded_from letter Tag tag
      tag_coded letter = response_coded letter ∙ ap (coded_from letter Tag) (sym tag_is)

      pub tag_without : HasNone 32 tag → HasNoCode text
      tag_without none letter = tag_coded letter ∙ none_blank letter tag none

      module _ (code : List ℕ) (parted : IsBehind 32 tag code) where
        code_coded : (letter : ℕ) → coded_from letter Rest text ≡ coded_from letter Code code
        code_coded letter = tag_coded letter ∙ ap (coded_from letter Tag) parted.2 ∙ behind_blank letter parted.0 code parted.1

        pub code_without : length code ≡ 0 → HasNoCode text
        code_without none letter = code_coded letter ∙ ap (coded_from letter Code) (nil_from_length code none)

        pub found_code : (b : ℕ) (rest : List ℕ) → code ≡ b ∷ rest → IsNextCode text b rest
        found_code b rest is = (λ letter. code_coded letter ∙ ap (coded_from letter Code) is, shorter)
          where
            shorter : length rest < length text
            shorter =
                let in_code : length code ≡ suc (length rest) = ap length is in
                let in_tag = ap length parted.2 ∙ length-append parted.0 (32 ∷ code) in
                let in_response = ap length tag_is ∙ length-drop 33 response in
                let in_text = ap length ended.2 ∙ length-append ended.0 (59 ∷ response) in
                omega (arith, in_code, in_tag, in_response, in_text)

-- a text without a further code is counted whole
pub none_left : (letter : ℕ) (written text : List ℕ) (count : ℕ) → count + coded_from letter Rest text ≡ coded_from letter Rest written → HasNoCode text → count ≡ coded_from letter Login written
none_left letter written text count so_far none = let e = none letter in let all = login_rests letter written in omega (arith, so_far, e, all)
