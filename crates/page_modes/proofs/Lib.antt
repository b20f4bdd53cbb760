mod PageLaws
