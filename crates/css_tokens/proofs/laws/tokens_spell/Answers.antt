use Rattle.css_tokens.proofs.Spelling.{comment_spells, gap_spells, name_spells, hash_spells, number_spells, string_spells, token_spells}
use Rattle.css_tokens.proofs.laws.tokens_spell.Goals as goal

pub returns : goal.returns
returns c = record { comments = comment_spells; gaps = gap_spells; names = name_spells; hashes = hash_spells; numbers = number_spells; strings = string_spells; tokens = token_spells }
