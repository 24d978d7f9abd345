use Rattle.std.proofs.Common.{ℕ, List, sym, subst}
use Rattle.tl1_text.specs.Units.{IsStream}
use Rattle.tl1_text.proofs.Once.{streams_once}
use Rattle.craft_session.specs.Happenings.{bytes_in, inputs_in}
use Rattle.craft_session.proofs.Streams.{stream_of}
use Rattle.session_laws.proofs.units_are_alone.Goals as goal

pub returns : goal.returns
returns c = λ items more hs gs rest other h g r o same.
    (streams_once (bytes_in items) (inputs_in hs) (inputs_in gs) rest other (stream_of items hs rest h r) (subst (λ (l : List ℕ). IsStream l (inputs_in gs) other) (sym same) (stream_of more gs other g o))).0
