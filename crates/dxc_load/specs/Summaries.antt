-- The line that tells what a run of the whole script came to.
use Rattle.std.specs.Prelude.{ℕ, List, ◌++◌, codes, decimal}
use Rattle.dxc_load.specs.declared.summary.Summary.{Summary}

abbrev pub summary_line : Summary → List ℕ
summary_line v =
    codes "COMMANDS 10000 COMPLD " ++ decimal v.codes.completed
    ++ codes " DENY " ++ decimal v.codes.denied
    ++ codes " CONNECTIONS " ++ decimal v.connections
    ++ codes " SWITCHES " ++ decimal v.switches
    ++ codes " FRAMES 10000 BYTES " ++ decimal v.carried
    ++ codes "\n"
