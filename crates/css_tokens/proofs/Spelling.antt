-- What the readers of tokens owe to the grammar, in one place.
pub use Rattle.css_tokens.proofs.GapLaws.{comment_spells, gap_spells}
pub use Rattle.css_tokens.proofs.NameLaws.{name_spells, hash_spells}
pub use Rattle.css_tokens.proofs.StringLaws.{string_spells}
pub use Rattle.css_tokens.proofs.NumberLaws.{number_spells}
pub use Rattle.css_tokens.proofs.TokenLaws.{token_spells}
