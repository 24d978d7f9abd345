-- Two indices with the same users are of one table.
use Rattle.std.proofs.Common.{◌≡◌, ℕ, List, Option, None, length, get_or, sym, ap, ◌∙◌, subst}
use Rattle.std.specs.Prelude.{flat_map, option_to_list}
use Rattle.std.specs.List.{range_with_len}
use Rattle.std.proofs.lemmas.List.{ext_get_or}
use Rattle.dxc_num.specs.declared.port.Middle.{Middle}
use Rattle.dxc_num.specs.Dimensions.{Dimensions, ports}
use Rattle.dxc_model.specs.declared.conn.Conn.{Conn}
use Rattle.dxc_model.specs.declared.sides.SideIndex.{SideIndex}
use Rattle.dxc_model.specs.Equipment.{modules_in}
use Rattle.dxc_model.specs.Keeping.{IsKept}
use Rattle.dxc_model.specs.PortSets.{has_port}
use Rattle.dxc_model.specs.Sides.{conns_in, user_at, user_of, where_from}
use Rattle.dxc_model.specs.Tables.{Board, Side}
use Rattle.dxc_model.specs.Tables.Side.{input_of, output_of}

same_users : (i j : SideIndex) (s : Side) → i.inputs.items ≡ j.inputs.items → i.outputs.items ≡ j.outputs.items → user_at i s ≡ user_at j s
same_users i j (input_of p) a b = ap (λ (xs : List (Option Conn)). get_or xs p.0 None) a
same_users i j (output_of p) a b = ap (λ (xs : List (Option Conn)). get_or xs p.0 None) b

-- what stands for a table stands for it again where it was copied
pub kept_copied : (t u : Board) (i j : SideIndex) → IsKept u j → t ≡ u → i.inputs.items ≡ j.inputs.items → i.outputs.items ≡ j.outputs.items → i.starts.items ≡ j.starts.items → IsKept t i
kept_copied t u i j k same a b c = subst (λ (w : Board). IsKept w i) (sym same) (record {
  limits = k.limits;
  proper = k.proper;
  of_shape = k.of_shape;
  inputs = ap length a ∙ k.inputs;
  outputs = ap length b ∙ k.outputs;
  words = ap length c ∙ k.words;
  users = λ s. same_users i j s a b ∙ k.users s;
  starts = λ p. ap (λ (ws : List ℕ). has_port ws p) c ∙ k.starts p;
})

-- the connections are told by the input sides
abbrev listing : List (Option Conn) → ℕ → List Conn
listing us n = flat_map (λ p. option_to_list (where_from p (get_or us p None))) (range_with_len 0 n)

abbrev board : Dimensions → SideIndex → ℕ → Option Middle → Board
board d i bits o = record { shape = d; conns = conns_in i (ports d); equipped = modules_in d bits; out = o }

pub copied : (d e : Dimensions) (i j : SideIndex) (bits : ℕ) (o : Option Middle) → d ≡ e → i.inputs.items ≡ j.inputs.items → board d i bits o ≡ board e j bits o
copied d e i j bits o a b = λ k. record { shape = a k; conns = listing (b k) (ports (a k)); equipped = modules_in (a k) bits; out = o }

-- and the input sides by the connections
pub same_inputs : (t u : Board) (i j : SideIndex) → IsKept t i → IsKept u j → t.shape ≡ u.shape → t.conns ≡ u.conns → i.inputs.items ≡ j.inputs.items
same_inputs t u i j k m d e = ext_get_or None i.inputs.items j.inputs.items (k.inputs ∙ (ap ports d ∙ sym m.inputs))
    (λ p l. k.users (input_of (record { 0 = p })) ∙ (ap (λ (cs : List Conn). user_of cs (input_of (record { 0 = p }))) e ∙ sym (m.users (input_of (record { 0 = p })))))

-- a table is told by its modules, its input sides and the middle that is out
pub told_together : (d e : Dimensions) (i j : SideIndex) (bits more : ℕ) (o p : Option Middle) → d ≡ e → modules_in d bits ≡ modules_in d more → i.inputs.items ≡ j.inputs.items → o ≡ p → board d i bits o ≡ board e j more p
told_together d e i j bits more o p a m b f = (λ k. record { shape = d; conns = listing (b k) (ports d); equipped = m k; out = f k }) ∙ ap (λ (g : Dimensions). board g j more p) a
