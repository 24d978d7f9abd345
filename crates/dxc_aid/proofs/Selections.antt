-- Selections, as they are read and as they are named.
use Rattle.std.proofs.Common.{◌≡◌, ℕ, Bool, true, false, List, map, if◌then◌else◌, Option, Some, None, codes, refl, sym, ◌∙◌, subst}
use Rattle.std.specs.Char.{to_ascii_lowercase}
use Rattle.std.specs.Option.{option_map}
use Rattle.dxc_num.specs.declared.port.Port.{Port}
use Rattle.dxc_num.specs.Dimensions.{Dimensions, IsInLimits}
use Rattle.dxc_model.specs.declared.op.Selection.{Selection}
use Rattle.dxc_model.specs.declared.op.Selection.TheVariants.{All, Module, Port as OnePort}
use Rattle.dxc_aid.specs.Names.{IsSameText, module_name, port_name, NamesModule, NamesSelection, names_all, names_module, names_port, is_same_text, module_named, port_named, or_else, selection_named}
use Rattle.dxc_aid.specs.Laws.{AreNames, AreReadAgain}
use Rattle.dxc_aid.proofs.Cases.{is_same, same_is}
use Rattle.dxc_aid.proofs.Ports.{module_is, module_read, middle_is, middle_read, port_is, port_read, module_again, middle_again, port_again}

module _ (d : Dimensions) (limits : IsInLimits d) where
  by_parts : (text : List ℕ) (s : Selection) (c : Bool) (m : Option ℕ) (p : Option Port) → is_same_text text (codes "ALL") ≡ c → module_named d text ≡ m → port_named d text ≡ p
      → (if c then Some All else or_else (option_map Module m) (option_map OnePort p)) ≡ Some s → NamesSelection d text s
  by_parts text s true m p c_is m_is p_is is = let same : All ≡ s = cc in subst (NamesSelection d text) same (names_all (is_same text (codes "ALL") c_is))
  by_parts text s false (Some m) p c_is m_is p_is is = let same : Module m ≡ s = cc in subst (NamesSelection d text) same (names_module m (module_is d limits text m m_is))
  by_parts text s false None (Some p) c_is m_is p_is is = let same : OnePort p ≡ s = cc in subst (NamesSelection d text) same (names_port p (port_is d limits text p p_is))
  by_parts text s false None None c_is m_is p_is is = cc

  selection_is : (text : List ℕ) (s : Selection) → selection_named d text ≡ Some s → NamesSelection d text s
  unfolding selection_named
  selection_is text s is = by_parts text s (is_same_text text (codes "ALL")) (module_named d text) (port_named d text) refl refl refl is

  -- no text names two of ALL, a module and a port: their names have different first letters
  apart : (text a b : List ℕ) → IsSameText text a → IsSameText text b → map to_ascii_lowercase a ≡ map to_ascii_lowercase b
  apart text a b one two = sym one ∙ two

  not_all : (text : List ℕ) → (IsSameText text (codes "ALL") → ⊥) → (c : Bool) → is_same_text text (codes "ALL") ≡ c → c ≡ false
  not_all text never true c_is = absurd (never (is_same text (codes "ALL") c_is))
  not_all text never false c_is = refl

  not_module : (text : List ℕ) → ((m : ℕ) → NamesModule d text m → ⊥) → (o : Option ℕ) → module_named d text ≡ o → o ≡ None
  not_module text never None o_is = refl
  not_module text never (Some m) o_is = absurd (never m (module_is d limits text m o_is))

  selection_read : (text : List ℕ) (s : Selection) → NamesSelection d text s → selection_named d text ≡ Some s
  unfolding selection_named
  selection_read text _ (names_all is) = rw (same_is text (codes "ALL") is) (refl)
  selection_read text _ (names_module m is) =
      let other : IsSameText text (codes "ALL") → ⊥ = λ all. (let e = apart text (codes "ALL") (module_name m) all is.name in cc) in
      rw (not_all text other (is_same_text text (codes "ALL")) refl, module_read d limits text m is) (refl)
  selection_read text _ (names_port p is) =
      let other : IsSameText text (codes "ALL") → ⊥ = λ all. (let e = apart text (codes "ALL") (port_name d p) all is.name in cc) in
      let none : (m : ℕ) → NamesModule d text m → ⊥ = λ m names. (let e = apart text (module_name m) (port_name d p) names.name is.name in cc) in
      rw (not_all text other (is_same_text text (codes "ALL")) refl, not_module text none (module_named d text) refl, port_read d limits text p is) (refl)

  pub are_names : AreNames d
  are_names = record {
    modules = λ text m. (module_is d limits text m, module_read d limits text m);
    middles = λ text m. (middle_is d limits text m, middle_read d limits text m);
    ports = λ text p. (port_is d limits text p, port_read d limits text p);
    selections = λ text s. (selection_is text s, selection_read text s);
  }

  pub are_read_again : AreReadAgain d
  are_read_again = record { modules = module_again d limits; middles = middle_again d limits; ports = port_again d limits }
