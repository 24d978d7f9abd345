-- The mode of a line, by its words.
use Rattle.std.proofs.Common.{◌≡◌, ◌∙◌, ℕ, List, ap, refl}
use Rattle.dxc_args.specs.declared.line.Line.{Line}
use Rattle.dxc_args.specs.declared.line.Line.TheVariants.{Script, Trial, Check, Export, Serve, Standby, Load}
use Rattle.dxc_args.specs.Lines.{IsLine, words_of}
use Rattle.dxc_console.specs.Words.{is_look, looks_only}

look_of : (l : Line) → is_look (words_of l) ≡ looks_only l
look_of (Script shelf journal) = refl
look_of (Trial shape) = refl
look_of (Check shelf journal) = refl
look_of (Export shelf journal) = refl
look_of (Serve x) = refl
look_of (Standby journal address) = refl
look_of (Load number) = refl

-- the words of a line tell whether it changes a file
pub look_by : (words : List (List ℕ)) (l : Line) → IsLine words l → is_look words ≡ looks_only l
look_by words l is = ap is_look is.spells.spelled ∙ look_of l
