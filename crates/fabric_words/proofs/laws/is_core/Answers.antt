use Rattle.std.proofs.Common.{ℕ}
use Rattle.atomic_table.specs.Table.{State}
use Rattle.fabric_core.specs.declared.size.Size.{Size}
use Rattle.fabric_core.proofs.Kept.{always_hitless}
use Rattle.fabric_words.specs.declared.table.Aim.{Aim}
use Rattle.fabric_words.specs.declared.table.View.{View}
use Rattle.fabric_words.specs.declared.table.View.TheVariants.{Idle, AsMover, AsWorker}
use Rattle.fabric_words.specs.Tied.{Knows, Tied}
use Rattle.fabric_words.specs.Laws.{IsOf}
use Rattle.fabric_words.proofs.laws.is_core.Goals as goal

is_of : (z : Size) (s : State Aim View) (t : Tied z s) (j : ℕ) (v : View) → Knows z t.core t.writer t.dealt t.owner j v → IsOf t.core v
is_of z s t j Idle h = tt
is_of z s t j (AsMover u d m) h = h.2
is_of z s t j (AsWorker u v) h = h.1

pub returns : goal.returns
returns c z s t = record { events = t.events; core = t.core; reached = t.reached; hitless = always_hitless z t.events t.core t.sized t.reached; words_are = t.words_are; views_are = λ j v at. is_of z s t j v (t.each j v at) }
