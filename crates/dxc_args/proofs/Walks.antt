-- What the walk makes of the words of a line.
use Rattle.std.proofs.Common.{◌≡◌, ℕ, List, [], ◌∷◌, ◌++◌, refl, codes, true, false, Some, None, nat_eq, fold, ◌∙◌, ap, sym, append_assoc, append-nil, length, nat_lt, is_some, arith, ◌≤◌, subst, inl, inr}
use Rattle.std.proofs.lemmas.Bool.Decides.{nat_tests}
use Rattle.clap.specs.Walk.{rows_of, first_of, all_of, idle, settled, finished, Walk, Row, Rule, walked, walk, walk_from, nothing_held, positional, Text}
use Rattle.clap.specs.Simple.{matches_of, Shape, entered, built, is_simple}
use Rattle.clap.specs.Faults.{is_simple_and_free, turn_fault, walk_fault, fault_of, settle_fault, defaults_fault, check_fault, entered_fault}
use Rattle.clap.specs.Kinds.{Kinds, or_else, values_kinds}
use Rattle.clap.specs.Lexer.{usize_max}
use Rattle.clap.specs.declared.builder.value_parser.ValueParser.TheVariants.{String}
use Rattle.clap.proofs.OnLiterals.{clap_on_literals}
use Rattle.dxc_args.specs.Matching.{line_app, BeginsPlain, HasLine}
use Rattle.clap.specs.Words.{found_of, kind_of}
use Rattle.clap.specs.Simple.{App}
use Rattle.clap.specs.Kinds.{HasKind}
use Rattle.clap.specs.declared.error.Error.{Error}
use Rattle.clap.specs.declared.error.kind.ErrorKind.TheVariants.{OutOfMemory}
use Rattle.clap.proofs.WalkLemmas.{first_value-rows, raw_values-rows}
use Rattle.clap.specs.declared.parser.matches.ArgMatches.{ArgMatches}

pub simple : is_simple_and_free line_app ≡ true
unfolding clap_on_literals
simple = refl

abbrev rules : List Rule
rules = (built line_app).top.rules

-- the walk after the mode
abbrev after_mode : Text → Walk
after_mode word = record {
  held = record { rows = []; pending = Some (codes "mode", word ∷ []); skip = 0 };
  waiting = idle;
  position = 2;
  is_trailing = true;
  stopped = None;
}

pub first_empty : walked rules [] (walk_from nothing_held) [] ≡ after_mode []
unfolding clap_on_literals
first_empty = refl

pub first_some : (x : ℕ) (xs : List ℕ) → nat_eq x 45 ≡ false → walked rules [] (walk_from nothing_held) (x ∷ xs) ≡ after_mode (x ∷ xs)
unfolding clap_on_literals
first_some x xs h = simp h

-- the walk after more words
abbrev after_rest : Walk → List Text → Walk
after_rest w words = record w {
  held = record { rows = w.held.rows; pending = Some (codes "rest", words); skip = 0 };
  waiting = positional;
}

pub next_rest : (mode : Text) (words : List Text) (word : Text) → walked rules [] (after_rest (walked rules [] (after_mode mode) word) words) word ≡ after_rest (walked rules [] (after_mode mode) word) (words ++ word ∷ [])
unfolding clap_on_literals
next_rest mode words word = refl

-- all the words after the first of the rest
pub walk_rest : (mode : Text) (word : Text) (words : List Text) (more : List Text) → fold (walked rules []) (after_rest (walked rules [] (after_mode mode) word) words) more ≡ after_rest (walked rules [] (after_mode mode) word) (words ++ more)
unfolding walked
walk_rest mode word words [] = ap (after_rest (walked rules [] (after_mode mode) word)) (sym (append-nil words))
walk_rest mode word words (w ∷ ws) =
    ap (λ at. fold (walked rules []) at ws) (next_rest mode words w)
    ∙ walk_rest mode word (words ++ w ∷ []) ws
    ∙ ap (after_rest (walked rules [] (after_mode mode) word)) (append_assoc words (w ∷ []) ws)

abbrev top : Shape
top = (built line_app).top

pub second : (mode word : Text) → walked rules [] (after_mode mode) word ≡ after_rest (walked rules [] (after_mode mode) word) (word ∷ [])
unfolding clap_on_literals
second mode word = refl

pub turn_empty : turn_fault top [] (walk_from nothing_held) [] ≡ []
unfolding clap_on_literals
turn_empty = refl

pub turn_some : (x : ℕ) (xs : List ℕ) → nat_eq x 45 ≡ false → turn_fault top [] (walk_from nothing_held) (x ∷ xs) ≡ []
unfolding clap_on_literals
turn_some x xs h = simp h

pub turn_second : (mode word : Text) → turn_fault top [] (after_mode mode) word ≡ []
unfolding clap_on_literals
turn_second mode word = refl

pub turn_rest : (mode word : Text) (words : List Text) (next : Text) → turn_fault top [] (after_rest (walked rules [] (after_mode mode) word) words) next ≡ []
unfolding clap_on_literals
turn_rest mode word words next = refl

pub values_pass : (ws : List Text) → values_kinds false String ws ≡ []
values_pass [] = refl
values_pass (w ∷ ws) = values_pass ws

pub walk_fault_rest : (mode word : Text) (words more : List Text) → walk_fault top [] (after_rest (walked rules [] (after_mode mode) word) words) more ≡ []
unfolding clap_on_literals
walk_fault_rest mode word words [] = refl
walk_fault_rest mode word words (w ∷ ws) = walk_fault_rest mode word (words ++ w ∷ []) ws

-- what is left to test once the walk is over
abbrev after_walk : Walk → Kinds
after_walk end = or_else (entered_fault (built line_app) end.stopped)
    (or_else (settle_fault rules false end.held)
    (or_else (defaults_fault (settled rules end.held).rows rules)
    (check_fault top (finished rules end.held) (is_some (entered (built line_app) end.stopped)))))

pub after_mode_passes : (mode : Text) → after_walk (after_mode mode) ≡ []
unfolding clap_on_literals
after_mode_passes mode = refl

not_below_zero : (n : ℕ) → nat_lt n 0 ≡ false
not_below_zero n = grind (arith, nat_tests)

pub after_rest_passes : (mode word first : Text) (more : List Text) → nat_lt usize_max (length (first ∷ more)) ≡ false → after_walk (after_rest (walked rules [] (after_mode mode) word) (first ∷ more)) ≡ []
unfolding clap_on_literals
after_rest_passes mode word first more h = simp (h, values_pass more, not_below_zero (length (first ∷ more)))

-- a first word with which the walk begins as a mode
pub record IsMode (word : Text) : Type 0 where
  pub walks : walked rules [] (walk_from nothing_held) word ≡ after_mode word
  pub passes : turn_fault top [] (walk_from nothing_held) word ≡ []

pub mode_empty : IsMode []
mode_empty = record { walks = first_empty; passes = turn_empty }

pub mode_some : (x : ℕ) (xs : List ℕ) → nat_eq x 45 ≡ false → IsMode (x ∷ xs)
mode_some x xs h = record { walks = first_some x xs h; passes = turn_some x xs h }

pub end_of_rest : (mode word : Text) (more : List Text) → IsMode mode → walk rules [] nothing_held (mode ∷ word ∷ more) ≡ after_rest (walked rules [] (after_mode mode) word) (word ∷ more)
end_of_rest mode word more m =
    ap (λ at. fold (walked rules []) (walked rules [] at word) more) m.walks
    ∙ ap (λ at. fold (walked rules []) at more) (second mode word)
    ∙ walk_rest mode word (word ∷ []) more

pub faults_of_rest : (mode word : Text) (more : List Text) → IsMode mode → walk_fault top [] (walk_from nothing_held) (mode ∷ word ∷ more) ≡ []
unfolding walk_fault
faults_of_rest mode word more m =
    ap (λ f. or_else f (walk_fault top [] (walked rules [] (walk_from nothing_held) mode) (word ∷ more))) m.passes
    ∙ ap (λ at. walk_fault top [] at (word ∷ more)) m.walks
    ∙ ap (λ f. or_else f (walk_fault top [] (walked rules [] (after_mode mode) word) more)) (turn_second mode word)
    ∙ ap (λ at. walk_fault top [] at more) (second mode word)
    ∙ walk_fault_rest mode word (word ∷ []) more

pub no_fault_alone : (mode : Text) → IsMode mode → fault_of line_app (mode ∷ []) ≡ []
unfolding walk_fault
no_fault_alone mode m = rw (m.walks, m.passes) (after_mode_passes mode)

pub no_fault_with : (mode word : Text) (more : List Text) → IsMode mode → nat_lt usize_max (length (word ∷ more)) ≡ false → fault_of line_app (mode ∷ word ∷ more) ≡ []
no_fault_with mode word more m h =
    rw (end_of_rest mode word more m, faults_of_rest mode word more m) (after_rest_passes mode word word more h)

pub mode_alone : (mode : Text) → IsMode mode → first_of (codes "mode") (matches_of line_app (mode ∷ [])) ≡ Some mode
unfolding walked
mode_alone mode m = rw m.walks refl

pub rest_alone : (mode : Text) → IsMode mode → all_of (codes "rest") (matches_of line_app (mode ∷ [])) ≡ None
unfolding walked
rest_alone mode m = rw m.walks refl

abbrev rows_at : Walk → List Row
rows_at end = finished rules end.held

at_end_mode : (mode word : Text) (more : List Text) → first_of (codes "mode") (rows_at (after_rest (walked rules [] (after_mode mode) word) (word ∷ more))) ≡ Some mode
unfolding clap_on_literals
at_end_mode mode word more = refl

at_end_rest : (mode word : Text) (more : List Text) → all_of (codes "rest") (rows_at (after_rest (walked rules [] (after_mode mode) word) (word ∷ more))) ≡ Some (word ∷ more)
unfolding clap_on_literals
at_end_rest mode word more = refl

pub mode_with : (mode word : Text) (more : List Text) → IsMode mode → first_of (codes "mode") (matches_of line_app (mode ∷ word ∷ more)) ≡ Some mode
mode_with mode word more m =
    ap (λ end. first_of (codes "mode") (rows_at end)) (end_of_rest mode word more m) ∙ at_end_mode mode word more

pub rest_with : (mode word : Text) (more : List Text) → IsMode mode → all_of (codes "rest") (matches_of line_app (mode ∷ word ∷ more)) ≡ Some (word ∷ more)
rest_with mode word more m =
    ap (λ end. all_of (codes "rest") (rows_at end)) (end_of_rest mode word more m) ∙ at_end_rest mode word more

is_mode : (mode : Text) (more : List Text) → BeginsPlain (mode ∷ more) → IsMode mode
is_mode [] more plain = mode_empty
is_mode (x ∷ xs) more plain = let h : nat_eq x 45 ≡ false = grind (arith, nat_tests) in mode_some x xs h

few_below : (n : ℕ) → n ≤ 8 → nat_lt usize_max n ≡ false
few_below n h = grind (arith, nat_tests)

-- no line of few words whose first is plain is refused
pub no_fault : (words : List Text) → BeginsPlain words → length words ≤ 8 → fault_of line_app words ≡ []
no_fault [] plain few = absurd plain
no_fault (mode ∷ []) plain few = no_fault_alone mode (is_mode mode [] plain)
no_fault (mode ∷ word ∷ more) plain few =
    let fits : length (word ∷ more) ≤ 8 = omega arith in
    no_fault_with mode word more (is_mode mode (word ∷ more) plain) (few_below (length (word ∷ more)) fits)

-- the rows of such a line have the mode and the rest
pub line_rows : (words : List Text) (m : ArgMatches) → BeginsPlain words → rows_of (found_of m) ≡ matches_of line_app words → HasLine words m
line_rows [] m plain rows = absurd plain
line_rows (mode ∷ []) m plain rows = (
  first_value-rows (found_of m) (codes "mode") ∙ ap (first_of (codes "mode")) rows ∙ mode_alone mode (is_mode mode [] plain),
  raw_values-rows (found_of m) (codes "rest") ∙ ap (all_of (codes "rest")) rows ∙ rest_alone mode (is_mode mode [] plain),
)
line_rows (mode ∷ word ∷ more) m plain rows = (
  first_value-rows (found_of m) (codes "mode") ∙ ap (first_of (codes "mode")) rows ∙ mode_with mode word more (is_mode mode (word ∷ more) plain),
  raw_values-rows (found_of m) (codes "rest") ∙ ap (all_of (codes "rest")) rows ∙ rest_with mode word more (is_mode mode (word ∷ more) plain),
)

pub is_simple_line : is_simple line_app ≡ true
unfolding clap_on_literals
is_simple_line = refl

-- an error without a kind is want of memory
pub only_memory : (app : App) (words : List (List ℕ)) (e : Error) → app ≡ line_app → BeginsPlain words → length words ≤ 8
    → (is_simple_and_free app ≡ true → HasKind (fault_of app words) e) → kind_of e ≡ OutOfMemory
only_memory app words e is_line plain few told =
    elim (subst (λ kinds. HasKind kinds e) (ap (λ a. fault_of a words) is_line ∙ no_fault words plain few) (told (ap is_simple_and_free is_line ∙ simple))) [
      | inl memory ↦ memory
      | inr other ↦ absurd other
    ]
