use Rattle.std.proofs.Common.{◌≡◌, ap, ◌∙◌, codes}
use Rattle.clap.specs.Words.{first_of, found_of, rows_of}
use Rattle.clap.proofs.WalkLemmas.{first_value-rows}
use Rattle.command_line.specs.Reading.{block_of, count_of, inline_of, job_with, named, text_of}
use Rattle.command_line.proofs.read.job_in.Goals as goal

pub returns : goal.returns
returns c =
    let found = found_of c.args.matches.now in
    let rows = rows_of found in
    let command : text_of c.get_str.result ≡ first_of (codes "command") rows = c.get_str.ensures ∙ first_value-rows found (codes "command") in
    let inline : text_of c.get_str-2.result ≡ first_of (codes "view-inline") rows = c.get_str-2.ensures ∙ first_value-rows found (codes "view-inline") in
    let block : text_of c.get_str-3.result ≡ first_of (codes "view-block") rows = c.get_str-3.ensures ∙ first_value-rows found (codes "view-block") in
    let count : text_of c.get_str-4.result ≡ first_of (codes "count") rows = c.get_str-4.ensures ∙ first_value-rows found (codes "count") in
    c.job_with.ensures
    ∙ ap (λ x. job_with x c.inline_of.result c.block_of.result c.count_of.result) (c.command_of.ensures ∙ ap named command)
    ∙ ap (λ x. job_with (named (first_of (codes "command") rows)) x c.block_of.result c.count_of.result) (c.inline_of.ensures ∙ ap inline_of inline)
    ∙ ap (λ x. job_with (named (first_of (codes "command") rows)) (inline_of (first_of (codes "view-inline") rows)) x c.count_of.result) (c.block_of.ensures ∙ ap block_of block)
    ∙ ap (job_with (named (first_of (codes "command") rows)) (inline_of (first_of (codes "view-inline") rows)) (block_of (first_of (codes "view-block") rows))) (c.count_of.ensures ∙ ap count_of count)
