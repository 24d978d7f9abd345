-- As for texts: the words of names are the names' own bytes.
use Rattle.std.proofs.Common.{◌≡◌, ℕ, ap, ap₂, ◌∙◌, sym, map, List, [], ◌∷◌, length, ◌≤◌, subst, refl}
use Rattle.std.proofs.lemmas.List.{length-map}
use Rattle.clap.specs.Simple.{is_simple, matches_of}
use Rattle.clap.specs.Words.{app_of}
use Rattle.dxc_args.specs.Matching.{line_app, BeginsPlain}
use Rattle.dxc_args.proofs.Walks.{is_simple_line, line_rows, only_memory}
use Rattle.dxc_args.proofs.matching.name_matches.Goals as goal

map_same : (xs : List (List ℕ)) → map (λ x. x) xs ≡ xs
map_same [] = refl
map_same (x ∷ xs) = ap (λ ys. x ∷ ys) (map_same xs)

pub returns-in-Ok-try_get_matches_from-clause-read : goal.returns-in-Ok-try_get_matches_from-clause-read
returns-in-Ok-try_get_matches_from-clause-read c =
    let app_is : app_of c.in-Ok.command ≡ line_app = c.in-Ok.ensures in
    let told = c.in-Ok-try_get_matches_from.ensures.matches (ap is_simple app_is ∙ is_simple_line) in
    line_rows c.args.words.now c.in-Ok-try_get_matches_from.matches c.requires.plain (told.0 ∙ ap₂ matches_of app_is (map_same c.args.words.now))

pub returns-in-Err-clause-only_memory : goal.returns-in-Err-clause-only_memory
returns-in-Err-clause-only_memory c = λ bad.
    let words : List (List ℕ) = map (λ x. x) c.args.words.now in
    let app_is : app_of c.in-Ok.command ≡ line_app = c.in-Ok.ensures in
    let few : length words ≤ 8 = rw length-map c.requires.few in
    let plain : BeginsPlain words = subst BeginsPlain (sym (map_same c.args.words.now)) c.requires.plain in
    let memory = only_memory (app_of c.in-Ok.command) words c.in-Err.error app_is plain few c.in-Err.ensures.kinds in
    c.fault_of.ensures (cc) (c.kind.ensures ∙ memory)
