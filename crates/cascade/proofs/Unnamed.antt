-- Places where none stands under any name.
use Rattle.std.proofs.Common.{◌≡◌, ℕ, List, [], length, sym, ap, bytes_eq, String, Global}
use Rattle.std.specs.Global.{Vec}
use Rattle.std.specs.Map.{lookup}
use Rattle.std.specs.Option.{option_map_or}
use Rattle.std.specs.String.{string_bytes}
use Rattle.std.proofs.lemmas.List.{nil_from_length}
use Rattle.cascade.specs.declared.places.Places.{Places}
use Rattle.cascade.specs.Places.{places_under}

pub none_under : (places : Places) (name : List ℕ) → length places.under.entries ≡ 0 → [] ≡ places_under places name
none_under places name none = ap (λ (es : List (String Global × Vec ℕ)). option_map_or (λ list. list.items) (lookup (λ k. bytes_eq name (string_bytes k)) es) []) (sym (nil_from_length places.under.entries none))
