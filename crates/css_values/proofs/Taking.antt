-- Values: what is read for a property is a value of it.
use Rattle.std.proofs.Common.{◌≡◌, inl, inr, ℕ, ◌≤◌, ◌-◌, Bool, true, false, cond, ℤ, pos, negsuc, List, [], ◌∷◌, codes, Some, None, refl, sym, ap, subst, ◌∙◌, arith}
use Rattle.std.specs.Prelude.{⊤, T, ◌&&◌, ◌||◌, ◌==◌, ◌≤ℤ◌, int_le, nat_le, find, bytes_eq, Option, option_map, Ok, Err}
use Rattle.std.specs.Int.Signed.{le_z_yes}
use Rattle.std.specs.List.{All, Contains, list_all}
use Rattle.std.proofs.lemmas.Bool.{and_parts}
use Rattle.std.proofs.lemmas.List.Elements.{All-from_recursion, All-head, All-tail}
use Rattle.std.proofs.lemmas.Slice.Eq.{bytes_eq-Decides}
use Rattle.basic_laws.proofs.Lists.{contains_first, contains_other}
use Rattle.reading.specs.Readers.{Read, strip_either_case}
use Rattle.reading.specs.Names.{lowered, named}
use Rattle.css_types.specs.Keywords.{words_of}
use Rattle.css_types.specs.Value.{HasSayable, IsAmong, IsDigits, IsFace, IsIn, IsNamedWidth, IsNumber, IsOfGroup, IsValueBy, spelled}
use Rattle.wm_units.specs.Numbers.{IsSayable}
use Rattle.css_types.specs.declared.keyword.Keyword as keyword
use Rattle.css_types.specs.declared.keyword.Keywords.{Keywords}
use Rattle.css_types.specs.declared.keyword.Keywords.TheVariants as groups
use Rattle.css_types.specs.declared.table.More.{More}
use Rattle.css_types.specs.declared.table.More.TheVariants as more
use Rattle.css_types.specs.declared.table.PropertyRow.{PropertyRow}
use Rattle.css_types.specs.declared.table.Range.{Range}
use Rattle.css_types.specs.declared.table.Range.TheVariants as ranges
use Rattle.css_types.specs.declared.table.Values.{Values}
use Rattle.css_types.specs.declared.value.Value.{Value}
use Rattle.css_types.specs.declared.value.Value.TheVariants as values
use Rattle.css_tokens.specs.Tokens as tokens
use Rattle.css_tokens.specs.Tokens.{Lexeme}
use Rattle.css_values.specs.Longhand.{digit_behind, digits, entries, face_digit, face_number, family, first_face, in_range, is_name, is_one_of, is_word, is_zero, keyword_of, length_in, longhand, most_digits, number_or, number_value, one_token, or_else, single, value_by, width_named}
use Rattle.css_values.specs.Tables.{keywords, widths}
use Rattle.css_values.proofs.Sayable.{AreSaid, IsSaid}

-- one of these values, with numbers that a style sheet can say
abbrev pub IsTaken : Values → Value → Type 0
IsTaken v value = IsAmong v value × HasSayable value

-- ---- elements of lists

-- ---- rows of tables

is_small : List ℕ → Bool
is_small word = bytes_eq (lowered word) word

-- the row that a table has for a name
record IsRow {T : Type 0} (table : List (List ℕ × T)) (name : List ℕ) (x : T) : Type 0 where
  word : List ℕ
  stands : Contains table (word, x)
  same : lowered word ≡ name
  small : is_small word ≡ true

row_by : {T : Type 0} (word : List ℕ) (y x : T) (others : List (List ℕ × T)) (name : List ℕ) (t : Bool) → bytes_eq (lowered word) name ≡ t → is_small word ≡ true
    → (named others name ≡ Some x → IsRow others name x)
    → option_map (λ (row : List ℕ × T). row.1) (cond t (Some (word, y)) (find (λ (row : List ℕ × T). bytes_eq (lowered row.0) name) others)) ≡ Some x → IsRow ((word, y) ∷ others) name x
row_by {T = T} word y x others name true is small later e =
    let same : y ≡ x = cc in
    record {
      word = word;
      stands = subst (λ (z : T). Contains ((word, y) ∷ others) (word, z)) same (contains_first (word, y) others);
      same = (bytes_eq-Decides (lowered word) name).0 is;
      small = small;
    }
row_by word y x others name false is small later e =
    let r = later e in
    record { word = r.word; stands = contains_other (word, y) (r.word, x) others r.stands; same = r.same; small = r.small }

row_of : {T : Type 0} (table : List (List ℕ × T)) (name : List ℕ) (x : T) → list_all (λ (row : List ℕ × T). is_small row.0) table ≡ true → named table name ≡ Some x → IsRow table name x
row_of [] name x small e = absurd cc
row_of {T = T} ((word, y) ∷ others) name x small e =
    let two = and_parts (is_small word) (list_all (λ (row : List ℕ × T). is_small row.0) others) small in
    row_by word y x others name (bytes_eq (lowered word) name) refl two.0 (row_of others name x two.1) e

-- what holds of each row holds of the one that a table has for a name
holds_by : {T : Type 0} (P : T → Type 0) (word : List ℕ) (y x : T) (others : List (List ℕ × T)) (name : List ℕ) (t : Bool) → P y
    → (named others name ≡ Some x → P x)
    → option_map (λ (row : List ℕ × T). row.1) (cond t (Some (word, y)) (find (λ (row : List ℕ × T). bytes_eq (lowered row.0) name) others)) ≡ Some x → P x
holds_by P word y x others name true here later e =
    let same : y ≡ x = cc in
    subst P same here
holds_by P word y x others name false here later e = later e

pub holds_of_row : {T : Type 0} (P : T → Type 0) (table : List (List ℕ × T)) (name : List ℕ) (x : T) → All (λ (row : List ℕ × T). P row.1) table → named table name ≡ Some x → P x
holds_of_row P [] name x all e = absurd cc
holds_of_row {T = T} P ((word, y) ∷ others) name x all e =
    holds_by P word y x others name (bytes_eq (lowered word) name) (All-head (λ (row : List ℕ × T). P row.1) (word, y) others all)
    (holds_of_row P others name x (All-tail (λ (row : List ℕ × T). P row.1) (word, y) others all)) e

-- ---- keywords

-- a word that a name is
record IsNameOf (words : List (List ℕ)) (name : List ℕ) : Type 0 where
  word : List ℕ
  stands : Contains words word
  same : lowered word ≡ lowered name
  small : is_small word ≡ true

word_by : (word : List ℕ) (others : List (List ℕ)) (name : List ℕ) (t : Bool) → is_word word name ≡ t → is_small word ≡ true → (is_one_of others name ≡ true → IsNameOf others name)
    → (t || is_one_of others name) ≡ true → IsNameOf (word ∷ others) name
word_by word others name true is small later e =
    record { word = word; stands = contains_first word others; same = (bytes_eq-Decides (lowered word) (lowered name)).0 is; small = small }
word_by word others name false is small later e =
    let r = later e in
    record { word = r.word; stands = contains_other word r.word others r.stands; same = r.same; small = r.small }

word_of : (words : List (List ℕ)) (name : List ℕ) → list_all is_small words ≡ true → is_one_of words name ≡ true → IsNameOf words name
word_of [] name small e = absurd cc
word_of (word ∷ others) name small e =
    let two = and_parts (is_small word) (list_all is_small others) small in
    word_by word others name (is_word word name) refl two.0 (word_of others name two.1) e

groups_are_small : (group : Keywords) → list_all is_small (words_of group) ≡ true
unfolding is_small
groups_are_small groups.Nowhere = refl
groups_are_small groups.Displays = refl
groups_are_small groups.Modes = refl
groups_are_small groups.Directions = refl
groups_are_small groups.Orientations = refl
groups_are_small groups.Combines = refl
groups_are_small groups.Bidis = refl
groups_are_small groups.Normal = refl
groups_are_small groups.Aligns = refl
groups_are_small groups.Baseline = refl
groups_are_small groups.Auto = refl
groups_are_small groups.NoLimit = refl
groups_are_small groups.Lines = refl
groups_are_small groups.Positions = refl

keywords_are_small : list_all (λ (row : List ℕ × keyword.Keyword). is_small row.0) keywords ≡ true
unfolding is_small keywords
keywords_are_small = refl

small_is : (word : List ℕ) → is_small word ≡ true → lowered word ≡ word
unfolding is_small
small_is word e = (bytes_eq-Decides (lowered word) word).0 e

keyword_stands : (word : List ℕ) (k : keyword.Keyword) → Contains keywords (word, k) → Contains {X = List ℕ × keyword.Keyword} spelled (word, k)
unfolding keywords
keyword_stands word k is = is

of_group : (group : Keywords) (name : List ℕ) (k : keyword.Keyword) → is_one_of (words_of group) name ≡ true → named keywords (lowered name) ≡ Some k → IsOfGroup group k
of_group group name k one is =
    let w = word_of (words_of group) name (groups_are_small group) one in
    let r = row_of keywords (lowered name) k keywords_are_small is in
    let same : r.word ≡ w.word = sym (small_is r.word r.small) ∙ r.same ∙ sym w.same ∙ small_is w.word w.small in
    (w.word, w.stands, subst (λ (word : List ℕ). Contains {X = List ℕ × keyword.Keyword} spelled (word, k)) same (keyword_stands r.word k r.stands))

keyword_by : (v : Values) (name : List ℕ) (value : Value) (t : Bool) (found : Option keyword.Keyword) → is_one_of (words_of v.keywords) name ≡ t → named keywords (lowered name) ≡ found
    → cond t (option_map (λ (k : keyword.Keyword). values.Keyword k) found) None ≡ Some value → IsTaken v value
keyword_by v name value true (Some k) one is e =
    let same : values.Keyword k ≡ value = cc in
    subst (λ (z : Value). IsTaken v z) same (of_group v.keywords name k one is, tt)
keyword_by v name value true None one is e = absurd cc
keyword_by v name value false found one is e = absurd cc

-- ---- widths with names

abbrev IsWidth : ℤ → Type 0
IsWidth n = IsNamedWidth more.Widths n × IsSayable n

widths_are : All (λ (row : List ℕ × ℤ). IsWidth row.1) widths
unfolding widths
widths_are = All-from_recursion (λ (row : List ℕ × ℤ). IsWidth row.1) widths (((0, omega arith, refl), omega arith), (((1, omega arith, refl), omega arith), (((2, omega arith, refl), omega arith), tt)))

width_by : (v : Values) (value : Value) (m : More) (name : List ℕ) (found : Option ℤ) → v.more ≡ m → named widths (lowered name) ≡ found → width_named m name ≡ Some value → IsTaken v value
width_by v value more.Widths name (Some n) m is e =
    let same : values.Px n ≡ value = cc in
    let w = holds_of_row IsWidth widths (lowered name) n widths_are is in
    subst (λ (z : Value). IsTaken v z) same (inr (subst (λ (k : More). IsNamedWidth k n) (sym m) w.0), w.1)
width_by v value more.Widths name None m is e = absurd cc
width_by v value more.Nothing name found m is e = absurd cc
width_by v value more.Numbers name found m is e = absurd cc
width_by v value more.Faces name found m is e = absurd cc
width_by v value more.Digits name found m is e = absurd cc

name_by : (v : Values) (name : List ℕ) (value : Value) (found : Option Value) → keyword_of v.keywords name ≡ found → or_else found (width_named v.more name) ≡ Some value → IsTaken v value
name_by v name value (Some keyword) is e =
    let same : keyword ≡ value = cc in
    keyword_by v name value (is_one_of (words_of v.keywords) name) (named keywords (lowered name)) refl refl (is ∙ ap (λ (z : Value). Some z) same)
name_by v name value None is e = width_by v value v.more name (named widths (lowered name)) refl refl e

-- ---- numbers

not_negative : (n : ℤ) → int_le (pos 0) n ≡ true → pos 0 ≤ℤ n
not_negative n e = le_z_yes (subst T (sym e) tt)

is_in : (range : Range) (n : ℤ) → in_range range n ≡ true → IsIn range n
is_in ranges.Nowhere n e = absurd cc
is_in ranges.NotNegative n e = not_negative n e
is_in ranges.Anywhere n e = tt

zero_is_in : (range : Range) (n : ℤ) → in_range range n ≡ true → IsIn range (pos 0)
zero_is_in ranges.Nowhere n e = absurd cc
zero_is_in ranges.NotNegative n e = omega arith
zero_is_in ranges.Anywhere n e = tt

number_by : (v : Values) (n : ℤ) (value : Value) (t : Bool) → v.more ≡ more.Numbers → IsSayable n → int_le (pos 0) n ≡ t → cond t (Some (values.Number n)) None ≡ Some value → IsTaken v value
number_by v n value true m said is e =
    let same : values.Number n ≡ value = cc in
    subst (λ (z : Value). IsTaken v z) same (subst (λ (k : More). IsNumber k n) (sym m) (not_negative n is), said)
number_by v n value false m said is e = absurd cc

zero_by : (v : Values) (n : ℤ) (value : Value) (a b : Bool) → in_range v.lengths n ≡ b → cond (a && b) (Some (values.Px (pos 0))) None ≡ Some value → IsTaken v value
zero_by v n value true true is e =
    let same : values.Px (pos 0) ≡ value = cc in
    subst (λ (z : Value). IsTaken v z) same (inl (zero_is_in v.lengths n is), omega arith)
zero_by v n value true false is e = absurd cc
zero_by v n value false b is e = absurd cc

number_is : (v : Values) (n : ℤ) (value : Value) (m : More) → v.more ≡ m → IsSayable n → number_value m v.lengths n ≡ Some value → IsTaken v value
number_is v n value more.Numbers m said e = number_by v n value (int_le (pos 0) n) m said refl e
number_is v n value more.Nothing m said e = zero_by v n value (is_zero n) (in_range v.lengths n) refl e
number_is v n value more.Faces m said e = zero_by v n value (is_zero n) (in_range v.lengths n) refl e
number_is v n value more.Digits m said e = zero_by v n value (is_zero n) (in_range v.lengths n) refl e
number_is v n value more.Widths m said e = zero_by v n value (is_zero n) (in_range v.lengths n) refl e

length_by : (v : Values) (n : ℤ) (value : Value) (px em : Bool) → IsIn v.lengths n → IsSayable n → cond px (Some (values.Px n)) (cond em (Some (values.Em n)) None) ≡ Some value → IsTaken v value
length_by v n value true em is said e =
    let same : values.Px n ≡ value = cc in
    subst (λ (z : Value). IsTaken v z) same (inl is, said)
length_by v n value false true is said e =
    let same : values.Em n ≡ value = cc in
    subst (λ (z : Value). IsTaken v z) same (is, said)
length_by v n value false false is said e = absurd cc

dimension_by : (v : Values) (n : ℤ) (unit : List ℕ) (value : Value) (t : Bool) → in_range v.lengths n ≡ t → IsSayable n → cond t (length_in unit n) None ≡ Some value → IsTaken v value
dimension_by v n unit value true is said e = length_by v n value (is_word (codes "px") unit) (is_word (codes "em") unit) (is_in v.lengths n is) said e
dimension_by v n unit value false is said e = absurd cc

percentage_by : (v : Values) (n : ℤ) (value : Value) (t : Bool) → in_range v.percentages n ≡ t → IsSayable n → cond t (Some (values.Percent n)) None ≡ Some value → IsTaken v value
percentage_by v n value true is said e =
    let same : values.Percent n ≡ value = cc in
    subst (λ (z : Value). IsTaken v z) same (is_in v.percentages n is, said)
percentage_by v n value false is said e = absurd cc

-- ---- a value of one token

pub single_is_taken : (v : Values) (lexeme : Lexeme) (value : Value) → IsSaid lexeme → single v lexeme ≡ Some value → IsTaken v value
unfolding single
single_is_taken v (tokens.name n) value said e = name_by v n value (keyword_of v.keywords n) refl e
single_is_taken v (tokens.number n) value said e = number_is v n value v.more refl said e
single_is_taken v (tokens.dimension n unit) value said e = dimension_by v n unit value (in_range v.lengths n) refl said e
single_is_taken v (tokens.percentage n) value said e = percentage_by v n value (in_range v.percentages n) refl said e
single_is_taken v (tokens.function n) value said e = absurd cc
single_is_taken v (tokens.quoted inside) value said e = absurd cc
single_is_taken v (tokens.hash word) value said e = absurd cc
single_is_taken v tokens.round value said e = absurd cc
single_is_taken v tokens.square value said e = absurd cc
single_is_taken v (tokens.sign byte) value said e = absurd cc

-- ---- faces

digit_by : (digit : ℕ) (n : ℕ) (t : Bool) → (nat_le 48 digit && nat_le digit 55) ≡ t → cond t (Some (digit - 48)) None ≡ Some n → n ≤ 7
digit_by digit n true is e =
    let same : digit - 48 ≡ n = cc in
    grind (arith, same)
digit_by digit n false is e = absurd cc

digit_is : (text : List ℕ) (n : ℕ) → face_digit text ≡ Some n → n ≤ 7
digit_is [] n e = absurd cc
digit_is (digit ∷ []) n e = digit_by digit n (nat_le 48 digit && nat_le digit 55) refl e
digit_is (digit ∷ other ∷ others) n e = absurd cc

behind_is : (read : Read ⊤) (n : ℕ) → digit_behind read ≡ Some n → n ≤ 7
behind_is (Ok there) n e = digit_is there.1 n e
behind_is (Err left) n e = absurd cc

face_is : (name : List ℕ) (n : ℕ) → face_number name ≡ Some n → n ≤ 7
unfolding face_number
face_is name n e = behind_is (strip_either_case (codes "face") name) n e

number_or_is : (found : Option ℕ) (other : ℕ) → ((n : ℕ) → found ≡ Some n → n ≤ 7) → other ≤ 7 → number_or found other ≤ 7
number_or_is (Some n) other is le = is n refl
number_or_is None other is le = le

first_is : (texts : List (List ℕ)) → first_face texts ≤ 7
unfolding first_face
first_is [] = omega arith
first_is (text ∷ texts) = number_or_is (face_number text) (first_face texts) (face_is text) (first_is texts)

family_by : (v : Values) (value : Value) (texts : Option (List (List ℕ))) → v.more ≡ more.Faces → option_map (λ (t : List (List ℕ)). values.Face (first_face t)) texts ≡ Some value → IsTaken v value
family_by v value (Some texts) m e =
    let same : values.Face (first_face texts) ≡ value = cc in
    subst (λ (z : Value). IsTaken v z) same (subst (λ (k : More). IsFace k (first_face texts)) (sym m) (first_is texts), tt)
family_by v value None m e = absurd cc

family_is_taken : (v : Values) (lexemes : List Lexeme) (value : Value) → v.more ≡ more.Faces → family lexemes ≡ Some value → IsTaken v value
unfolding family
family_is_taken v lexemes value m e = family_by v value (entries lexemes) m e

-- ---- digits

most_by : (v : Values) (value : Value) (two three four : Bool) → v.more ≡ more.Digits
    → cond two (Some (values.Digits 2)) (cond three (Some (values.Digits 3)) (cond four (Some (values.Digits 4)) None)) ≡ Some value → IsTaken v value
most_by v value true three four m e =
    let same : values.Digits 2 ≡ value = cc in
    subst (λ (z : Value). IsTaken v z) same (subst (λ (k : More). IsDigits k 2) (sym m) (omega arith, omega arith), tt)
most_by v value false true four m e =
    let same : values.Digits 3 ≡ value = cc in
    subst (λ (z : Value). IsTaken v z) same (subst (λ (k : More). IsDigits k 3) (sym m) (omega arith, omega arith), tt)
most_by v value false false true m e =
    let same : values.Digits 4 ≡ value = cc in
    subst (λ (z : Value). IsTaken v z) same (subst (λ (k : More). IsDigits k 4) (sym m) (omega arith, omega arith), tt)
most_by v value false false false m e = absurd cc

most_is : (v : Values) (hundredths : ℤ) (value : Value) → v.more ≡ more.Digits → most_digits hundredths ≡ Some value → IsTaken v value
most_is v (pos n) value m e = most_by v value (n == 200) (n == 300) (n == 400) m e
most_is v (negsuc n) value m e = absurd cc

counted_by : (v : Values) (hundredths : ℤ) (value : Value) (t : Bool) → v.more ≡ more.Digits → cond t (most_digits hundredths) None ≡ Some value → IsTaken v value
counted_by v hundredths value true m e = most_is v hundredths value m e
counted_by v hundredths value false m e = absurd cc

two_by : (v : Values) (value : Value) (t : Bool) → v.more ≡ more.Digits → cond t (Some (values.Digits 2)) None ≡ Some value → IsTaken v value
two_by v value t m e = most_by v value t false false m e

digits_are : (v : Values) (lexemes : List Lexeme) (value : Value) → v.more ≡ more.Digits → digits lexemes ≡ Some value → IsTaken v value
digits_are v (tokens.name n ∷ []) value m e = two_by v value (is_word (codes "digits") n) m e
digits_are v (tokens.name n ∷ tokens.number count ∷ []) value m e = counted_by v count value (is_word (codes "digits") n) m e
digits_are v [] value m e = absurd cc
digits_are v (tokens.number a ∷ rest) value m e = absurd cc
digits_are v (tokens.dimension a unit ∷ rest) value m e = absurd cc
digits_are v (tokens.percentage a ∷ rest) value m e = absurd cc
digits_are v (tokens.function a ∷ rest) value m e = absurd cc
digits_are v (tokens.quoted inside ∷ rest) value m e = absurd cc
digits_are v (tokens.hash word ∷ rest) value m e = absurd cc
digits_are v (tokens.round ∷ rest) value m e = absurd cc
digits_are v (tokens.square ∷ rest) value m e = absurd cc
digits_are v (tokens.sign byte ∷ rest) value m e = absurd cc
digits_are v (tokens.name n ∷ tokens.name a ∷ rest) value m e = absurd cc
digits_are v (tokens.name n ∷ tokens.dimension a unit ∷ rest) value m e = absurd cc
digits_are v (tokens.name n ∷ tokens.percentage a ∷ rest) value m e = absurd cc
digits_are v (tokens.name n ∷ tokens.function a ∷ rest) value m e = absurd cc
digits_are v (tokens.name n ∷ tokens.quoted inside ∷ rest) value m e = absurd cc
digits_are v (tokens.name n ∷ tokens.hash word ∷ rest) value m e = absurd cc
digits_are v (tokens.name n ∷ tokens.round ∷ rest) value m e = absurd cc
digits_are v (tokens.name n ∷ tokens.square ∷ rest) value m e = absurd cc
digits_are v (tokens.name n ∷ tokens.sign byte ∷ rest) value m e = absurd cc
digits_are v (tokens.name n ∷ tokens.number count ∷ another ∷ rest) value m e = absurd cc

-- ---- the whole value

one_is : (v : Values) (lexemes : List Lexeme) (value : Value) → AreSaid lexemes → one_token v lexemes ≡ Some value → IsTaken v value
one_is v [] value said e = absurd cc
one_is v (lexeme ∷ []) value said e = single_is_taken v lexeme value (All-head IsSaid lexeme [] said) e
one_is v (lexeme ∷ other ∷ others) value said e = absurd cc

or_digits_is : (v : Values) (lexemes : List Lexeme) (value : Value) (found : Option Value) → v.more ≡ more.Digits → AreSaid lexemes → one_token v lexemes ≡ found
    → or_else found (digits lexemes) ≡ Some value → IsTaken v value
or_digits_is v lexemes value (Some one) m said is e = one_is v lexemes value said (is ∙ e)
or_digits_is v lexemes value None m said is e = digits_are v lexemes value m e

value_is : (v : Values) (lexemes : List Lexeme) (value : Value) (m : More) → v.more ≡ m → AreSaid lexemes → value_by m v lexemes ≡ Some value → IsTaken v value
value_is v lexemes value more.Faces m said e = family_is_taken v lexemes value m e
value_is v lexemes value more.Nothing m said e = one_is v lexemes value said e
value_is v lexemes value more.Numbers m said e = one_is v lexemes value said e
value_is v lexemes value more.Digits m said e = or_digits_is v lexemes value (one_token v lexemes) m said refl e
value_is v lexemes value more.Widths m said e = one_is v lexemes value said e

pub among_is : (row : PropertyRow) (value : Value) → IsAmong row.values value → IsValueBy row value
among_is row values.Initial is = tt
among_is row values.Inherit is = absurd is
among_is row (values.Keyword k) is = is
among_is row (values.Px n) is = is
among_is row (values.Em n) is = is
among_is row (values.Percent n) is = is
among_is row (values.Number n) is = is
among_is row (values.Face n) is = is
among_is row (values.Digits n) is = is

inherit_by : (row : PropertyRow) (lexemes : List Lexeme) (value : Value) (a b : Bool) → row.inherited ≡ a → AreSaid lexemes
    → cond (a && b) (Some values.Inherit) (value_by row.values.more row.values lexemes) ≡ Some value → IsValueBy row value × HasSayable value
inherit_by row lexemes value true true inherited said e =
    let same : values.Inherit ≡ value = cc in
    subst (λ (z : Value). IsValueBy row z × HasSayable z) same (inherited, tt)
inherit_by row lexemes value true false inherited said e = let t = value_is row.values lexemes value row.values.more refl said e in (among_is row value t.0, t.1)
inherit_by row lexemes value false b inherited said e = let t = value_is row.values lexemes value row.values.more refl said e in (among_is row value t.0, t.1)

initial_by : (row : PropertyRow) (lexemes : List Lexeme) (value : Value) (t : Bool) → AreSaid lexemes
    → cond t (Some values.Initial) (cond (row.inherited && is_name (is_word (codes "inherit")) lexemes) (Some values.Inherit) (value_by row.values.more row.values lexemes)) ≡ Some value
    → IsValueBy row value × HasSayable value
initial_by row lexemes value true said e =
    let same : values.Initial ≡ value = cc in
    subst (λ (z : Value). IsValueBy row z × HasSayable z) same (tt, tt)
initial_by row lexemes value false said e = inherit_by row lexemes value row.inherited (is_name (is_word (codes "inherit")) lexemes) refl said e

pub longhand_is_a_value : (row : PropertyRow) (lexemes : List Lexeme) (value : Value) → AreSaid lexemes → longhand row lexemes ≡ Some value → IsValueBy row value × HasSayable value
unfolding longhand
longhand_is_a_value row lexemes value said e = initial_by row lexemes value (is_name (is_word (codes "initial")) lexemes) said e
