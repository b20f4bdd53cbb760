-- What a small document owes to its pages, by computation. An independent implementation gives the same. Lengths are in units of 1/64 px.
use Rattle.std.proofs.Common.{inl}
use Rattle.std.specs.Prelude.{refl, ℕ, List, [], ◌∷◌, Some, None, slice_get, pos}
use Rattle.wm_units.specs.declared.view.View.{View}
use Rattle.html_tokens.specs.declared.tag.Tag as tag
use Rattle.html_tokens.specs.declared.tag.Tag.TheVariants as tags
use Rattle.html_tokens.specs.Tag as tag_names
use Rattle.face_api.specs.Kinds.{mono_table, wide_table, first_table}
use Rattle.css_sheet.specs.Default.{default_rules}
use Rattle.style_types.specs.Initial.{initial}
use Rattle.dom_store.specs.State.{What, element, text, Entry, line_to, tree_to}
use Rattle.dom_store.specs.Standing.{ancestors_to, below_levels}
use Rattle.dom_store.specs.Edits.{set_text}
use Rattle.cascade.specs.Matching.{matches_from, some, each, tails}
use Rattle.cascade.specs.Claims.{stated, claims_of_rules}
use Rattle.cascade.specs.Winners.{greatest_from}
use Rattle.computed.specs.Sides.{margin_at, padding_at, size_at, border_at, margins, paddings, borders}
use Rattle.computed.specs.Step.{own_mode, own_display, own_direction, sized}
use Rattle.computed.specs.Winners.{won, said}
use Rattle.style_tree.specs.Styling.{styled_in}
use Rattle.box_gen.specs.Boxes.{content, join, runs, stacked}
use Rattle.box_limits.specs.Lines.{place_on}
use Rattle.size_rules.specs.Equation.{or_zero, rest}
use Rattle.relayout.specs.Boxed.{handed_on}
use Rattle.relayout.specs.Inline.{equation_of, inline_size, known_size}
use Rattle.edits.specs.Change.{Change, of_tree}
use Rattle.edits.specs.Edited.{after}
use Rattle.edits.specs.State.{State}
use Rattle.edit_scope.specs.Scope.{holder_in}
use Rattle.edit_script.specs.Meaning.{Step, show, edit}
use Rattle.edit_script.specs.Script.{StepAt}
use Rattle.hit_caret.specs.declared.probes.Probe.{Probe}
use Rattle.session.specs.Editing.{CanApply, log_after}
use Rattle.undo_log.specs.Log.{empty}
use Rattle.edit_job.specs.Owed.{Logged, Owed, Owing, after_edit, after_page, at_first, unlogged}
use Rattle.input_due.specs.Asked.{probes, steps}
use Rattle.input_due.specs.Owed.{OwesOver}

abbrev view : View
view = record { inline = pos 12800; block = pos 6400 }

abbrev plain : tag.Tag → What
plain of = element of None [] None []

-- <html><body><p>ab</p><p>cd</p></body></html>
unfoldable entries : List Entry
entries = (record { parent = None; children = 1 ∷ []; what = plain tags.Html }) ∷ (record { parent = Some 0; children = 2 ∷ 4 ∷ []; what = plain tags.Body })
    ∷ (record { parent = Some 1; children = 3 ∷ []; what = plain tags.P }) ∷ (record { parent = Some 2; children = []; what = text (97 ∷ 98 ∷ []) })
    ∷ (record { parent = Some 1; children = 5 ∷ []; what = plain tags.P }) ∷ (record { parent = Some 4; children = []; what = text (99 ∷ 100 ∷ []) }) ∷ []

unfoldable two_paragraphs : State
two_paragraphs = record { tree = record { node_at = λ n. slice_get entries n; next = 6 }; rules = []; faces = Some mono_table ∷ Some wide_table ∷ Some first_table ∷ [] }

abbrev at_line : ℕ → Step → StepAt
at_line line what = record { line = line; what = what }

abbrev amount : (prepared arranged : ℕ) → Owed
amount prepared arranged = record { prepared = prepared; arranged = arranged }

abbrev first_page : Owing
first_page = after_page view two_paragraphs (at_first two_paragraphs)

-- both texts, and what the two paragraphs, `body` and `html` come to: after it a page owes nothing
two_pages : OwesOver view two_paragraphs (steps (at_line 1 show ∷ at_line 2 show ∷ [])) (amount 2 4)
unfolding entries two_paragraphs matches_from some each tails tag_names.tags stated claims_of_rules greatest_from default_rules initial won said margin_at padding_at size_at border_at margins paddings borders own_mode own_display own_direction sized line_to tree_to below_levels ancestors_to styled_in content join runs stacked handed_on equation_of inline_size known_size or_zero rest
two_pages = (
  after_page view two_paragraphs first_page,
  (unlogged two_paragraphs, first_page, (refl, refl), (unlogged two_paragraphs, after_page view two_paragraphs first_page, (refl, refl), refl)),
  refl,
)

abbrev other_text : Change
other_text = of_tree (set_text 3 (120 ∷ 121 ∷ 122 ∷ []))

-- the document after that edit, with its step in the log
abbrev edited : Logged
edited = record { state = after two_paragraphs other_text; log = log_after two_paragraphs other_text empty }

abbrev second_page : Owing
second_page = after_page view (after two_paragraphs other_text) (after_edit two_paragraphs other_text first_page)

-- other text in the first paragraph: this text once more, and what this paragraph, `body` and `html` come to
a_page_after_an_edit : CanApply two_paragraphs other_text → OwesOver view two_paragraphs (steps (at_line 1 show ∷ at_line 2 (edit other_text) ∷ at_line 3 show ∷ [])) (amount 3 7)
unfolding entries two_paragraphs place_on matches_from some each tails tag_names.tags stated claims_of_rules greatest_from default_rules initial won said margin_at padding_at size_at border_at margins paddings borders own_mode own_display own_direction sized line_to tree_to holder_in below_levels ancestors_to styled_in content join runs stacked handed_on equation_of inline_size known_size or_zero rest
a_page_after_an_edit can = (
  second_page,
  (
    unlogged two_paragraphs,
    first_page,
    (refl, refl),
    (edited, after_edit two_paragraphs other_text first_page, inl (can, refl, refl), (edited, second_page, (refl, refl), refl)),
  ),
  refl,
)

-- one page, however many lines are answered over it
a_probe : (asked : List Probe) → OwesOver view two_paragraphs (probes asked) (amount 2 4)
unfolding entries two_paragraphs matches_from some each tails tag_names.tags stated claims_of_rules greatest_from default_rules initial won said margin_at padding_at size_at border_at margins paddings borders own_mode own_display own_direction sized line_to tree_to below_levels ancestors_to styled_in content join runs stacked handed_on equation_of inline_size known_size or_zero rest
a_probe asked = refl
