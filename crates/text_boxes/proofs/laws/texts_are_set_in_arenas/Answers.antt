use Rattle.text_boxes.proofs.SetArenas.{mode_set, page_set, result_stays, right_set, text_stays}
use Rattle.text_boxes.proofs.SetFounded.{founded_set}
use Rattle.text_boxes.proofs.laws.texts_are_set_in_arenas.Goals as goal

pub returns : goal.returns
returns c = record {
  page = page_set;
  right = λ faces view old new root number letters page setting. right_set old new root number letters page setting c.what_is_kept_is_right_after_a_restyle.ensures.alike faces view;
  founded = λ faces view old new root number letters page setting. founded_set old new root number letters page setting faces view;
  texts = λ old new root number letters page name setting finds. record {
    mode = mode_set old new root number letters page setting;
    text = λ place among is. text_stays old new root number letters page setting place among (finds.text place among is);
  };
  results = λ old new root number letters page pair setting finds. record {
    mode = mode_set old new root number letters page setting;
    result = λ place among is. result_stays old new root number letters page setting place pair.constraint among (finds.result place among is);
  };
}
