-- Texts are read as the values that they spell.
use Rattle.std.proofs.Common.{◌≡◌, refl, sym, ap, ◌∙◌, subst, arith, ℕ, ◌≤◌, Bool, true, false, cond, ◌&&◌, nat_le, List, [], ◌∷◌, length, append-nil, ne_eqb, ℤ, Option, Some, None, option_map, Ok, Err}
use Rattle.std.specs.Prelude.{bytes_eq, find, slice_get, ⊤}
use Rattle.std.specs.Char.{IsAsciiDigit}
use Rattle.std.proofs.lemmas.Slice.Eq.{bytes_eq-Decides}
use Rattle.std.proofs.lemmas.Option.{same_Some}
use Rattle.clap.specs.Walk.{Text}
use Rattle.reading.specs.Readers.{Read}
use Rattle.reading.specs.Decimals.{number, IsDecimal}
use Rattle.reading.proofs.DecimalLaws.{decimal_spells}
use Rattle.command_line.specs.declared.job.Command.{Command}
use Rattle.command_line.specs.declared.job.Command.TheVariants.{Layout, Edit, Modes, Gen, Probe}
use Rattle.command_line.specs.declared.values.TheConstants.{COMMANDS}
use Rattle.command_line.specs.Command.{IsNumberTo, IsValue, IsViewSize, command_name, px}
use Rattle.command_line.specs.Reading.{command_of, number_read, number_to, size_of, value_or, within}
use Rattle.command_line.proofs.Looking.{Looks, bare, no_hyphen}

-- ---- numbers

decimal_again : (text : Text) (n : ℕ) → IsDecimal 5 text n → number 5 text ≡ Ok (n, [])
decimal_again text n d = ap (number 5) (sym (append-nil text)) ∙ (decimal_spells 5).again text n [] d tt

decimal_takes : (text : Text) (n : ℕ) → number 5 text ≡ Ok (n, []) → IsDecimal 5 text n
decimal_takes text n e =
    let found = (decimal_spells 5).takes text n [] e in
    subst (λ (t : Text). IsDecimal 5 t n) (sym (found.2 ∙ append-nil found.0)) found.1

range_true : (most n : ℕ) → 1 ≤ n → n ≤ most → nat_le 1 n && nat_le n most ≡ true
range_true most n low high = grind arith

pub number_again : (most : ℕ) (text : Text) (n : ℕ) → IsNumberTo most text n → number_to most text ≡ Some n
number_again most text n is =
    ap (number_read most) (decimal_again text n is.0) ∙ ap (λ (b : Bool). cond b (Some n) None) (range_true most n is.1 is.2)

pub number_takes : (most : ℕ) (text : Text) (n : ℕ) → number_to most text ≡ Some n → IsNumberTo most text n
number_takes most text n e = go (number 5 text) refl where
  within_takes : (m : ℕ) (rest : Text) → number 5 text ≡ Ok (m, rest) → within most m rest ≡ Some n → IsNumberTo most text n
  within_takes m (byte ∷ rest) is some = absurd (cc)
  within_takes m [] is some = ranged (nat_le 1 m && nat_le m most) refl some where
    ranged : (b : Bool) → nat_le 1 m && nat_le m most ≡ b → cond (nat_le 1 m && nat_le m most) (Some m) None ≡ Some n → IsNumberTo most text n
    ranged true h value =
        let same : m ≡ n = same_Some _ _ (sym (ap (λ (b : Bool). cond b (Some m) None) h) ∙ value) in
        subst (IsNumberTo most text) same (decimal_takes text m is, grind arith, grind arith)
    ranged false h value =
        let bad : None ≡ Some n = sym (ap (λ (b : Bool). cond b (Some m) None) h) ∙ value in
        absurd (cc)

  go : (r : Read ℕ) → number 5 text ≡ r → IsNumberTo most text n
  go (Ok x) is = within_takes x.0 x.1 is (sym (ap (number_read most) is) ∙ e)
  go (Err left) is = let bad : None ≡ Some n = sym (ap (number_read most) is) ∙ e in absurd (cc)

pub size_again : (text : Text) (size : ℤ) → IsViewSize text size → size_of text ≡ Some size
size_again text size is = ap (option_map px) (number_again 16384 text is.0 is.1) ∙ ap Some (sym is.2)

pub size_takes : (text : Text) (size : ℤ) → size_of text ≡ Some size → IsViewSize text size
size_takes text size e = go (number_to 16384 text) refl where
  go : (o : Option ℕ) → number_to 16384 text ≡ o → IsViewSize text size
  go None is = let bad : None ≡ Some size = sym (ap (option_map px) is) ∙ e in absurd (cc)
  go (Some n) is = (n, number_takes 16384 text n is, sym (same_Some _ _ (sym (ap (option_map px) is) ∙ e)))

-- a number doesn't begin with a hyphen
pub number_bare : (most : ℕ) (text : Text) (n : ℕ) → IsNumberTo most text n → Looks bare text
number_bare most [] n is = let some = is.0.some in absurd (omega (arith, some))
number_bare most (x ∷ xs) n is =
    let digit : IsAsciiDigit x = is.0.digits 0 x (omega arith) in
    no_hyphen x xs (ne_eqb x 45 (λ e. omega (arith, digit, e)))

-- ---- commands

pub name_again : (c : Command) → command_of (command_name c) ≡ Some c
name_again Layout = refl
name_again Edit = refl
name_again Modes = refl
name_again Gen = refl
name_again Probe = refl

pub name_bare : (c : Command) → Looks bare (command_name c)
name_bare Layout = no_hyphen _ _ refl
name_bare Edit = no_hyphen _ _ refl
name_bare Modes = no_hyphen _ _ refl
name_bare Gen = no_hyphen _ _ refl
name_bare Probe = no_hyphen _ _ refl

-- rows of a table by their words and their commands
module _ {Row : Type 0} (word : Row → Text) (command : Row → Command) where
  -- each row has the word of its command
  abbrev AreNamed : List Row → Type 0
  AreNamed [] = ⊤
  AreNamed (row ∷ rows) = (word row ≡ command_name (command row)) × AreNamed rows

  found_is_named : (rows : List Row) → AreNamed rows → (text : Text) (c : Command) → option_map command (find (λ row. bytes_eq (word row) text) rows) ≡ Some c → text ≡ command_name c
  found_is_named [] named text c e = let bad : None ≡ Some c = e in absurd (cc)
  found_is_named (row ∷ rows) named text c e = go (bytes_eq (word row) text) refl (found_is_named rows named.1 text c) where
    by_test : (b : Bool) → bytes_eq (word row) text ≡ b → option_map command (cond b (Some row) (find (λ r. bytes_eq (word r) text) rows)) ≡ Some c
    by_test b is = sym (ap (λ (b : Bool). option_map command (cond b (Some row) (find (λ r. bytes_eq (word r) text) rows))) is) ∙ e

    go : (b : Bool) → bytes_eq (word row) text ≡ b → (option_map command (find (λ r. bytes_eq (word r) text) rows) ≡ Some c → text ≡ command_name c) → text ≡ command_name c
    go true is others = sym ((bytes_eq-Decides (word row) text).0 is) ∙ named.0 ∙ ap command_name (same_Some _ _ (by_test true is))
    go false is others = others (by_test false is)

pub name_takes : (text : Text) (c : Command) → command_of text ≡ Some c → text ≡ command_name c
name_takes text c e = found_is_named (λ row. row.0.now) (λ row. row.1) COMMANDS (refl, (refl, (refl, (refl, (refl, tt))))) text c e

-- ---- options

module _ {X : Type 0} (Means : Text → X → Type 0) (read : Text → Option X) (default : X) where
  pub value_again : ((t : Text) (x : X) → Means t x → read t ≡ Some x) → (ts : List Text) (x : X) → IsValue Means default ts x → value_or read default (slice_get ts 0) ≡ Some x
  value_again again [] x is = ap Some (sym is)
  value_again again (t ∷ []) x is = again t x is
  value_again again (t ∷ u ∷ more) x is = absurd is

  pub value_takes : ((t : Text) (x : X) → read t ≡ Some x → Means t x) → (ts : List Text) (x : X) → length ts ≤ 1 → value_or read default (slice_get ts 0) ≡ Some x → IsValue Means default ts x
  value_takes takes [] x few e = sym (same_Some default x e)
  value_takes takes (t ∷ []) x few e = takes t x e
  value_takes takes (t ∷ u ∷ more) x few e = absurd (omega (arith, few))

  pub value_once : (ts : List Text) (x : X) → IsValue Means default ts x → length ts ≤ 1
  value_once [] x is = omega arith
  value_once (t ∷ []) x is = omega arith
  value_once (t ∷ u ∷ more) x is = absurd is
