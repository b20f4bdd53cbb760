-- Trees of fragments with the pages that an independent implementation gives them, by computation.
use Rattle.std.specs.Prelude.{◌≡◌, refl, true, false, [], ◌∷◌, Some, None, pos, negsuc}
use Rattle.wm_modes.specs.declared.mode.Direction.TheVariants as directions
use Rattle.wm_modes.specs.declared.mode.WritingMode.TheVariants as modes
use Rattle.style_types.specs.declared.style.Baseline.TheVariants as bases
use Rattle.fragment_types.specs.declared.unit_kind.UnitKind.TheVariants as kinds
use Rattle.fragment_types.specs.Fragment.{none, piece, block, line, span, run, measure}
use Rattle.place_map.specs.Parts.{part, none as nothing}
use Rattle.place_map.specs.Placing.{place}

place-1 : place (record { inline = (pos 6400); block = (pos 3200) }) (piece (record { node = 0; ordinal = 0 }) (record { i = (pos 0); b = (pos 0); inline = (pos 6400); block = (pos 0) }) (block modes.VerticalLr directions.Rtl (record { i = (pos 0); b = (pos 0); inline = (pos 6400); block = (pos 0) }) None (record { positive = (pos 0); negative = (pos 0) }) (record { positive = (pos 0); negative = (pos 0) }) false) (piece (record { node = 1; ordinal = 0 }) (record { i = (pos 0); b = (pos 0); inline = (pos 6400); block = (pos 0) }) (block modes.VerticalLr directions.Rtl (record { i = (pos 0); b = (pos 0); inline = (pos 6400); block = (pos 0) }) None (record { positive = (pos 0); negative = (pos 0) }) (record { positive = (pos 0); negative = (pos 0) }) true) none none) none) ≡ record { view = (record { inline = (pos 6400); block = (pos 3200) }); parts = (part (record { node = 0; ordinal = 0 }) (record { x = (pos 0); y = (pos 0); w = (pos 0); h = (pos 6400) }) (block modes.VerticalLr directions.Rtl (record { i = (pos 0); b = (pos 0); inline = (pos 6400); block = (pos 0) }) None (record { positive = (pos 0); negative = (pos 0) }) (record { positive = (pos 0); negative = (pos 0) }) false) (part (record { node = 1; ordinal = 0 }) (record { x = (pos 0); y = (pos 0); w = (pos 0); h = (pos 6400) }) (block modes.VerticalLr directions.Rtl (record { i = (pos 0); b = (pos 0); inline = (pos 6400); block = (pos 0) }) None (record { positive = (pos 0); negative = (pos 0) }) (record { positive = (pos 0); negative = (pos 0) }) true) nothing nothing) nothing) }
place-1 = refl

place-2 : place (record { inline = (pos 6400); block = (pos 3200) }) (piece (record { node = 0; ordinal = 0 }) (record { i = (pos 0); b = (pos 0); inline = (pos 6400); block = (pos 0) }) (block modes.HorizontalTb directions.Ltr (record { i = (pos 0); b = (pos 0); inline = (pos 6400); block = (pos 0) }) None (record { positive = (pos 0); negative = (pos 0) }) (record { positive = (pos 0); negative = (pos 0) }) false) (piece (record { node = 1; ordinal = 0 }) (record { i = (pos 0); b = (pos 0); inline = (pos 6400); block = (pos 0) }) (block modes.HorizontalTb directions.Ltr (record { i = (pos 0); b = (pos 0); inline = (pos 6400); block = (pos 0) }) None (record { positive = (pos 0); negative = (pos 0) }) (record { positive = (pos 0); negative = (pos 0) }) true) none none) none) ≡ record { view = (record { inline = (pos 6400); block = (pos 3200) }); parts = (part (record { node = 0; ordinal = 0 }) (record { x = (pos 0); y = (pos 0); w = (pos 6400); h = (pos 0) }) (block modes.HorizontalTb directions.Ltr (record { i = (pos 0); b = (pos 0); inline = (pos 6400); block = (pos 0) }) None (record { positive = (pos 0); negative = (pos 0) }) (record { positive = (pos 0); negative = (pos 0) }) false) (part (record { node = 1; ordinal = 0 }) (record { x = (pos 0); y = (pos 0); w = (pos 6400); h = (pos 0) }) (block modes.HorizontalTb directions.Ltr (record { i = (pos 0); b = (pos 0); inline = (pos 6400); block = (pos 0) }) None (record { positive = (pos 0); negative = (pos 0) }) (record { positive = (pos 0); negative = (pos 0) }) true) nothing nothing) nothing) }
place-2 = refl

place-3 : place (record { inline = (pos 6400); block = (pos 3200) }) (piece (record { node = 0; ordinal = 0 }) (record { i = (pos 0); b = (pos 0); inline = (pos 6400); block = (pos 0) }) (block modes.VerticalRl directions.Rtl (record { i = (pos 0); b = (pos 0); inline = (pos 6400); block = (pos 0) }) None (record { positive = (pos 0); negative = (pos 0) }) (record { positive = (pos 0); negative = (pos 0) }) false) (piece (record { node = 1; ordinal = 0 }) (record { i = (pos 0); b = (pos 0); inline = (pos 6400); block = (pos 0) }) (block modes.VerticalRl directions.Rtl (record { i = (pos 0); b = (pos 0); inline = (pos 6400); block = (pos 0) }) None (record { positive = (pos 0); negative = (pos 0) }) (record { positive = (pos 0); negative = (pos 0) }) true) none none) none) ≡ record { view = (record { inline = (pos 6400); block = (pos 3200) }); parts = (part (record { node = 0; ordinal = 0 }) (record { x = (pos 3200); y = (pos 0); w = (pos 0); h = (pos 6400) }) (block modes.VerticalRl directions.Rtl (record { i = (pos 0); b = (pos 0); inline = (pos 6400); block = (pos 0) }) None (record { positive = (pos 0); negative = (pos 0) }) (record { positive = (pos 0); negative = (pos 0) }) false) (part (record { node = 1; ordinal = 0 }) (record { x = (pos 3200); y = (pos 0); w = (pos 0); h = (pos 6400) }) (block modes.VerticalRl directions.Rtl (record { i = (pos 0); b = (pos 0); inline = (pos 6400); block = (pos 0) }) None (record { positive = (pos 0); negative = (pos 0) }) (record { positive = (pos 0); negative = (pos 0) }) true) nothing nothing) nothing) }
place-3 = refl

place-4 : place (record { inline = (pos 6400); block = (pos 3200) }) (piece (record { node = 0; ordinal = 0 }) (record { i = (pos 0); b = (pos 0); inline = (pos 6400); block = (pos 0) }) (block modes.SidewaysRl directions.Rtl (record { i = (pos 0); b = (pos 0); inline = (pos 6400); block = (pos 0) }) None (record { positive = (pos 0); negative = (pos 0) }) (record { positive = (pos 0); negative = (pos 0) }) false) (piece (record { node = 1; ordinal = 0 }) (record { i = (pos 0); b = (pos 0); inline = (pos 6400); block = (pos 0) }) (block modes.SidewaysRl directions.Rtl (record { i = (pos 0); b = (pos 0); inline = (pos 6400); block = (pos 0) }) None (record { positive = (pos 0); negative = (pos 0) }) (record { positive = (pos 0); negative = (pos 0) }) true) none none) none) ≡ record { view = (record { inline = (pos 6400); block = (pos 3200) }); parts = (part (record { node = 0; ordinal = 0 }) (record { x = (pos 3200); y = (pos 0); w = (pos 0); h = (pos 6400) }) (block modes.SidewaysRl directions.Rtl (record { i = (pos 0); b = (pos 0); inline = (pos 6400); block = (pos 0) }) None (record { positive = (pos 0); negative = (pos 0) }) (record { positive = (pos 0); negative = (pos 0) }) false) (part (record { node = 1; ordinal = 0 }) (record { x = (pos 3200); y = (pos 0); w = (pos 0); h = (pos 6400) }) (block modes.SidewaysRl directions.Rtl (record { i = (pos 0); b = (pos 0); inline = (pos 6400); block = (pos 0) }) None (record { positive = (pos 0); negative = (pos 0) }) (record { positive = (pos 0); negative = (pos 0) }) true) nothing nothing) nothing) }
place-4 = refl

place-5 : place (record { inline = (pos 6400); block = (pos 3200) }) (piece (record { node = 0; ordinal = 0 }) (record { i = (pos 0); b = (pos 0); inline = (pos 6400); block = (pos 0) }) (block modes.VerticalRl directions.Ltr (record { i = (pos 0); b = (pos 0); inline = (pos 6400); block = (pos 0) }) None (record { positive = (pos 0); negative = (pos 0) }) (record { positive = (pos 0); negative = (pos 0) }) false) (piece (record { node = 1; ordinal = 0 }) (record { i = (pos 0); b = (pos 0); inline = (pos 6400); block = (pos 0) }) (block modes.VerticalRl directions.Ltr (record { i = (pos 0); b = (pos 0); inline = (pos 6400); block = (pos 0) }) None (record { positive = (pos 0); negative = (pos 0) }) (record { positive = (pos 0); negative = (pos 0) }) true) none none) none) ≡ record { view = (record { inline = (pos 6400); block = (pos 3200) }); parts = (part (record { node = 0; ordinal = 0 }) (record { x = (pos 3200); y = (pos 0); w = (pos 0); h = (pos 6400) }) (block modes.VerticalRl directions.Ltr (record { i = (pos 0); b = (pos 0); inline = (pos 6400); block = (pos 0) }) None (record { positive = (pos 0); negative = (pos 0) }) (record { positive = (pos 0); negative = (pos 0) }) false) (part (record { node = 1; ordinal = 0 }) (record { x = (pos 3200); y = (pos 0); w = (pos 0); h = (pos 6400) }) (block modes.VerticalRl directions.Ltr (record { i = (pos 0); b = (pos 0); inline = (pos 6400); block = (pos 0) }) None (record { positive = (pos 0); negative = (pos 0) }) (record { positive = (pos 0); negative = (pos 0) }) true) nothing nothing) nothing) }
place-5 = refl

place-6 : place (record { inline = (pos 12800); block = (pos 6400) }) (piece (record { node = 0; ordinal = 0 }) (record { i = (pos 0); b = (pos 0); inline = (pos 12800); block = (pos 0) }) (block modes.HorizontalTb directions.Rtl (record { i = (pos 0); b = (pos 0); inline = (pos 12800); block = (pos 0) }) None (record { positive = (pos 0); negative = (pos 0) }) (record { positive = (pos 0); negative = (pos 0) }) false) (piece (record { node = 1; ordinal = 0 }) (record { i = (pos 0); b = (pos 0); inline = (pos 12800); block = (pos 0) }) (block modes.HorizontalTb directions.Rtl (record { i = (pos 0); b = (pos 0); inline = (pos 12800); block = (pos 0) }) None (record { positive = (pos 0); negative = (pos 0) }) (record { positive = (pos 0); negative = (pos 0) }) true) none none) none) ≡ record { view = (record { inline = (pos 12800); block = (pos 6400) }); parts = (part (record { node = 0; ordinal = 0 }) (record { x = (pos 0); y = (pos 0); w = (pos 12800); h = (pos 0) }) (block modes.HorizontalTb directions.Rtl (record { i = (pos 0); b = (pos 0); inline = (pos 12800); block = (pos 0) }) None (record { positive = (pos 0); negative = (pos 0) }) (record { positive = (pos 0); negative = (pos 0) }) false) (part (record { node = 1; ordinal = 0 }) (record { x = (pos 0); y = (pos 0); w = (pos 12800); h = (pos 0) }) (block modes.HorizontalTb directions.Rtl (record { i = (pos 0); b = (pos 0); inline = (pos 12800); block = (pos 0) }) None (record { positive = (pos 0); negative = (pos 0) }) (record { positive = (pos 0); negative = (pos 0) }) true) nothing nothing) nothing) }
place-6 = refl

place-7 : place (record { inline = (pos 13312); block = (pos 13568) }) (piece (record { node = 0; ordinal = 0 }) (record { i = (pos 0); b = (pos 0); inline = (pos 13312); block = (pos 512) }) (block modes.VerticalLr directions.Ltr (record { i = (pos 0); b = (pos 0); inline = (pos 13312); block = (pos 512) }) None (record { positive = (pos 0); negative = (pos 0) }) (record { positive = (pos 0); negative = (pos 0) }) false) (piece (record { node = 1; ordinal = 0 }) (record { i = (pos 0); b = (pos 512); inline = (pos 13312); block = (pos 0) }) (block modes.VerticalLr directions.Ltr (record { i = (pos 0); b = (pos 0); inline = (pos 13312); block = (pos 0) }) None (record { positive = (pos 512); negative = (pos 0) }) (record { positive = (pos 512); negative = (pos 0) }) true) none none) none) ≡ record { view = (record { inline = (pos 13312); block = (pos 13568) }); parts = (part (record { node = 0; ordinal = 0 }) (record { x = (pos 0); y = (pos 0); w = (pos 512); h = (pos 13312) }) (block modes.VerticalLr directions.Ltr (record { i = (pos 0); b = (pos 0); inline = (pos 13312); block = (pos 512) }) None (record { positive = (pos 0); negative = (pos 0) }) (record { positive = (pos 0); negative = (pos 0) }) false) (part (record { node = 1; ordinal = 0 }) (record { x = (pos 512); y = (pos 0); w = (pos 0); h = (pos 13312) }) (block modes.VerticalLr directions.Ltr (record { i = (pos 0); b = (pos 0); inline = (pos 13312); block = (pos 0) }) None (record { positive = (pos 512); negative = (pos 0) }) (record { positive = (pos 512); negative = (pos 0) }) true) nothing nothing) nothing) }
place-7 = refl

place-8 : place (record { inline = (pos 6400); block = (pos 3200) }) (piece (record { node = 0; ordinal = 0 }) (record { i = (pos 0); b = (pos 0); inline = (pos 6400); block = (pos 128) }) (block modes.HorizontalTb directions.Ltr (record { i = (pos 0); b = (pos 0); inline = (pos 6400); block = (pos 128) }) None (record { positive = (pos 0); negative = (pos 0) }) (record { positive = (pos 0); negative = (pos 0) }) false) (piece (record { node = 1; ordinal = 0 }) (record { i = (pos 512); b = (pos 320); inline = (pos 6400); block = (pos 0) }) (block modes.HorizontalTb directions.Ltr (record { i = (pos 0); b = (pos 0); inline = (pos 6400); block = (pos 0) }) None (record { positive = (pos 320); negative = (pos 0) }) (record { positive = (pos 0); negative = (negsuc 191) }) true) none none) none) ≡ record { view = (record { inline = (pos 6400); block = (pos 3200) }); parts = (part (record { node = 0; ordinal = 0 }) (record { x = (pos 0); y = (pos 0); w = (pos 6400); h = (pos 128) }) (block modes.HorizontalTb directions.Ltr (record { i = (pos 0); b = (pos 0); inline = (pos 6400); block = (pos 128) }) None (record { positive = (pos 0); negative = (pos 0) }) (record { positive = (pos 0); negative = (pos 0) }) false) (part (record { node = 1; ordinal = 0 }) (record { x = (pos 512); y = (pos 320); w = (pos 6400); h = (pos 0) }) (block modes.HorizontalTb directions.Ltr (record { i = (pos 0); b = (pos 0); inline = (pos 6400); block = (pos 0) }) None (record { positive = (pos 320); negative = (pos 0) }) (record { positive = (pos 0); negative = (negsuc 191) }) true) nothing nothing) nothing) }
place-8 = refl

place-9 : place (record { inline = (pos 51200); block = (pos 38400) }) (piece (record { node = 0; ordinal = 0 }) (record { i = (pos 0); b = (pos 0); inline = (pos 51200); block = (pos 1152) }) (block modes.SidewaysLr directions.Ltr (record { i = (pos 0); b = (pos 0); inline = (pos 51200); block = (pos 1152) }) None (record { positive = (pos 0); negative = (pos 0) }) (record { positive = (pos 0); negative = (pos 0) }) false) (piece (record { node = 1; ordinal = 0 }) (record { i = (pos 512); b = (pos 512); inline = (pos 50176); block = (pos 128) }) (block modes.SidewaysLr directions.Ltr (record { i = (pos 64); b = (pos 64); inline = (pos 50048); block = (pos 0) }) None (record { positive = (pos 512); negative = (pos 0) }) (record { positive = (pos 512); negative = (pos 0) }) false) none none) none) ≡ record { view = (record { inline = (pos 51200); block = (pos 38400) }); parts = (part (record { node = 0; ordinal = 0 }) (record { x = (pos 0); y = (pos 0); w = (pos 1152); h = (pos 51200) }) (block modes.SidewaysLr directions.Ltr (record { i = (pos 0); b = (pos 0); inline = (pos 51200); block = (pos 1152) }) None (record { positive = (pos 0); negative = (pos 0) }) (record { positive = (pos 0); negative = (pos 0) }) false) (part (record { node = 1; ordinal = 0 }) (record { x = (pos 512); y = (pos 512); w = (pos 128); h = (pos 50176) }) (block modes.SidewaysLr directions.Ltr (record { i = (pos 64); b = (pos 64); inline = (pos 50048); block = (pos 0) }) None (record { positive = (pos 512); negative = (pos 0) }) (record { positive = (pos 512); negative = (pos 0) }) false) nothing nothing) nothing) }
place-9 = refl

place-10 : place (record { inline = (pos 12800); block = (pos 6400) }) (piece (record { node = 0; ordinal = 0 }) (record { i = (pos 0); b = (pos 0); inline = (pos 12800); block = (pos 1280) }) (block modes.SidewaysRl directions.Ltr (record { i = (pos 0); b = (pos 0); inline = (pos 12800); block = (pos 1280) }) (Some (pos 1280)) (record { positive = (pos 0); negative = (pos 0) }) (record { positive = (pos 0); negative = (pos 0) }) false) (piece (record { node = 1; ordinal = 0 }) (record { i = (pos 0); b = (pos 0); inline = (pos 12800); block = (pos 0) }) (block modes.SidewaysRl directions.Ltr (record { i = (pos 0); b = (pos 0); inline = (pos 12800); block = (pos 0) }) None (record { positive = (pos 0); negative = (pos 0) }) (record { positive = (pos 0); negative = (pos 0) }) true) none none) none) ≡ record { view = (record { inline = (pos 12800); block = (pos 6400) }); parts = (part (record { node = 0; ordinal = 0 }) (record { x = (pos 5120); y = (pos 0); w = (pos 1280); h = (pos 12800) }) (block modes.SidewaysRl directions.Ltr (record { i = (pos 0); b = (pos 0); inline = (pos 12800); block = (pos 1280) }) (Some (pos 1280)) (record { positive = (pos 0); negative = (pos 0) }) (record { positive = (pos 0); negative = (pos 0) }) false) (part (record { node = 1; ordinal = 0 }) (record { x = (pos 6400); y = (pos 0); w = (pos 0); h = (pos 12800) }) (block modes.SidewaysRl directions.Ltr (record { i = (pos 0); b = (pos 0); inline = (pos 12800); block = (pos 0) }) None (record { positive = (pos 0); negative = (pos 0) }) (record { positive = (pos 0); negative = (pos 0) }) true) nothing nothing) nothing) }
place-10 = refl

place-11 : place (record { inline = (pos 6400); block = (pos 3200) }) (piece (record { node = 0; ordinal = 0 }) (record { i = (pos 0); b = (pos 0); inline = (pos 6400); block = (pos 128) }) (block modes.SidewaysLr directions.Rtl (record { i = (pos 0); b = (pos 0); inline = (pos 6400); block = (pos 128) }) None (record { positive = (pos 0); negative = (pos 0) }) (record { positive = (pos 0); negative = (pos 0) }) false) (piece (record { node = 1; ordinal = 0 }) (record { i = (pos 0); b = (pos 0); inline = (pos 6400); block = (pos 128) }) (block modes.SidewaysLr directions.Rtl (record { i = (pos 0); b = (pos 0); inline = (pos 6400); block = (pos 128) }) None (record { positive = (pos 0); negative = (pos 0) }) (record { positive = (pos 0); negative = (pos 0) }) false) (piece (record { node = 2; ordinal = 0 }) (record { i = (pos 0); b = (pos 0); inline = (pos 6400); block = (pos 128) }) (block modes.SidewaysLr directions.Rtl (record { i = (pos 0); b = (pos 0); inline = (pos 6400); block = (pos 0) }) None (record { positive = (pos 0); negative = (pos 0) }) (record { positive = (pos 0); negative = (pos 0) }) false) none none) none) none) ≡ record { view = (record { inline = (pos 6400); block = (pos 3200) }); parts = (part (record { node = 0; ordinal = 0 }) (record { x = (pos 0); y = (pos 0); w = (pos 128); h = (pos 6400) }) (block modes.SidewaysLr directions.Rtl (record { i = (pos 0); b = (pos 0); inline = (pos 6400); block = (pos 128) }) None (record { positive = (pos 0); negative = (pos 0) }) (record { positive = (pos 0); negative = (pos 0) }) false) (part (record { node = 1; ordinal = 0 }) (record { x = (pos 0); y = (pos 0); w = (pos 128); h = (pos 6400) }) (block modes.SidewaysLr directions.Rtl (record { i = (pos 0); b = (pos 0); inline = (pos 6400); block = (pos 128) }) None (record { positive = (pos 0); negative = (pos 0) }) (record { positive = (pos 0); negative = (pos 0) }) false) (part (record { node = 2; ordinal = 0 }) (record { x = (pos 0); y = (pos 0); w = (pos 128); h = (pos 6400) }) (block modes.SidewaysLr directions.Rtl (record { i = (pos 0); b = (pos 0); inline = (pos 6400); block = (pos 0) }) None (record { positive = (pos 0); negative = (pos 0) }) (record { positive = (pos 0); negative = (pos 0) }) false) nothing nothing) nothing) nothing) }
place-11 = refl

place-12 : place (record { inline = (pos 6400); block = (pos 3200) }) (piece (record { node = 0; ordinal = 0 }) (record { i = (pos 0); b = (pos 0); inline = (pos 6400); block = (pos 2048) }) (block modes.HorizontalTb directions.Ltr (record { i = (pos 0); b = (pos 0); inline = (pos 6400); block = (pos 2048) }) None (record { positive = (pos 0); negative = (pos 0) }) (record { positive = (pos 0); negative = (pos 0) }) false) (piece (record { node = 0; ordinal = 0 }) (record { i = (pos 0); b = (pos 0); inline = (pos 6400); block = (pos 2048) }) (line 0 (pos 1280) modes.HorizontalTb bases.Alphabetic) (piece (record { node = 1; ordinal = 0 }) (record { i = (negsuc 319); b = (pos 512); inline = (pos 7040); block = (pos 1024) }) (block modes.HorizontalTb directions.Ltr (record { i = (pos 0); b = (pos 0); inline = (pos 6400); block = (pos 1024) }) None (record { positive = (pos 512); negative = (pos 0) }) (record { positive = (pos 512); negative = (pos 0) }) false) (piece (record { node = 1; ordinal = 0 }) (record { i = (pos 0); b = (pos 0); inline = (pos 6400); block = (pos 1024) }) (line 0 (pos 768) modes.HorizontalTb bases.Alphabetic) (piece (record { node = 2; ordinal = 0 }) (record { i = (pos 0); b = (pos 768); inline = (pos 1408); block = (pos 0) }) (block modes.HorizontalTb directions.Ltr (record { i = (pos 128); b = (pos 0); inline = (pos 1280); block = (pos 0) }) None (record { positive = (pos 0); negative = (pos 0) }) (record { positive = (pos 0); negative = (pos 0) }) false) none none) none) none) none) none) ≡ record { view = (record { inline = (pos 6400); block = (pos 3200) }); parts = (part (record { node = 0; ordinal = 0 }) (record { x = (pos 0); y = (pos 0); w = (pos 6400); h = (pos 2048) }) (block modes.HorizontalTb directions.Ltr (record { i = (pos 0); b = (pos 0); inline = (pos 6400); block = (pos 2048) }) None (record { positive = (pos 0); negative = (pos 0) }) (record { positive = (pos 0); negative = (pos 0) }) false) (part (record { node = 0; ordinal = 0 }) (record { x = (pos 0); y = (pos 0); w = (pos 6400); h = (pos 2048) }) (line 0 (pos 1280) modes.HorizontalTb bases.Alphabetic) (part (record { node = 1; ordinal = 0 }) (record { x = (negsuc 319); y = (pos 512); w = (pos 7040); h = (pos 1024) }) (block modes.HorizontalTb directions.Ltr (record { i = (pos 0); b = (pos 0); inline = (pos 6400); block = (pos 1024) }) None (record { positive = (pos 512); negative = (pos 0) }) (record { positive = (pos 512); negative = (pos 0) }) false) (part (record { node = 1; ordinal = 0 }) (record { x = (negsuc 319); y = (pos 512); w = (pos 6400); h = (pos 1024) }) (line 0 (pos 768) modes.HorizontalTb bases.Alphabetic) (part (record { node = 2; ordinal = 0 }) (record { x = (negsuc 319); y = (pos 1280); w = (pos 1408); h = (pos 0) }) (block modes.HorizontalTb directions.Ltr (record { i = (pos 128); b = (pos 0); inline = (pos 1280); block = (pos 0) }) None (record { positive = (pos 0); negative = (pos 0) }) (record { positive = (pos 0); negative = (pos 0) }) false) nothing nothing) nothing) nothing) nothing) nothing) }
place-12 = refl

place-13 : place (record { inline = (pos 11968); block = (pos 4160) }) (piece (record { node = 0; ordinal = 0 }) (record { i = (pos 0); b = (pos 0); inline = (pos 11968); block = (pos 1280) }) (block modes.SidewaysRl directions.Ltr (record { i = (pos 0); b = (pos 0); inline = (pos 11968); block = (pos 1280) }) (Some (pos 1280)) (record { positive = (pos 0); negative = (pos 0) }) (record { positive = (pos 0); negative = (pos 0) }) false) (piece (record { node = 1; ordinal = 0 }) (record { i = (pos 512); b = (pos 448); inline = (pos 10944); block = (pos 1024) }) (block modes.SidewaysRl directions.Ltr (record { i = (pos 0); b = (pos 0); inline = (pos 10944); block = (pos 1024) }) None (record { positive = (pos 448); negative = (pos 0) }) (record { positive = (pos 448); negative = (pos 0) }) false) (piece (record { node = 1; ordinal = 1 }) (record { i = (pos 0); b = (pos 0); inline = (pos 10944); block = (pos 1024) }) (block modes.SidewaysRl directions.Ltr (record { i = (pos 0); b = (pos 0); inline = (pos 10944); block = (pos 1024) }) None (record { positive = (pos 0); negative = (pos 0) }) (record { positive = (pos 0); negative = (pos 0) }) false) (piece (record { node = 1; ordinal = 1 }) (record { i = (pos 0); b = (pos 0); inline = (pos 10944); block = (pos 1024) }) (line 0 (pos 768) modes.SidewaysRl bases.Alphabetic) (piece (record { node = 2; ordinal = 0 }) (record { i = (pos 0); b = (pos 0); inline = (pos 512); block = (pos 1024) }) (run kinds.Along 0 None (record { first = 0; end = 1; extent = (pos 512); glyphs = ((97 ∷ []) ∷ []) } ∷ [])) none none) none) (piece (record { node = 3; ordinal = 0 }) (record { i = (pos 0); b = (pos 1024); inline = (pos 10944); block = (pos 0) }) (block modes.SidewaysRl directions.Ltr (record { i = (pos 0); b = (pos 0); inline = (pos 10944); block = (pos 0) }) None (record { positive = (pos 0); negative = (pos 0) }) (record { positive = (pos 0); negative = (pos 0) }) true) none none)) none) none) ≡ record { view = (record { inline = (pos 11968); block = (pos 4160) }); parts = (part (record { node = 0; ordinal = 0 }) (record { x = (pos 2880); y = (pos 0); w = (pos 1280); h = (pos 11968) }) (block modes.SidewaysRl directions.Ltr (record { i = (pos 0); b = (pos 0); inline = (pos 11968); block = (pos 1280) }) (Some (pos 1280)) (record { positive = (pos 0); negative = (pos 0) }) (record { positive = (pos 0); negative = (pos 0) }) false) (part (record { node = 1; ordinal = 0 }) (record { x = (pos 2688); y = (pos 512); w = (pos 1024); h = (pos 10944) }) (block modes.SidewaysRl directions.Ltr (record { i = (pos 0); b = (pos 0); inline = (pos 10944); block = (pos 1024) }) None (record { positive = (pos 448); negative = (pos 0) }) (record { positive = (pos 448); negative = (pos 0) }) false) (part (record { node = 1; ordinal = 1 }) (record { x = (pos 2688); y = (pos 512); w = (pos 1024); h = (pos 10944) }) (block modes.SidewaysRl directions.Ltr (record { i = (pos 0); b = (pos 0); inline = (pos 10944); block = (pos 1024) }) None (record { positive = (pos 0); negative = (pos 0) }) (record { positive = (pos 0); negative = (pos 0) }) false) (part (record { node = 1; ordinal = 1 }) (record { x = (pos 2688); y = (pos 512); w = (pos 1024); h = (pos 10944) }) (line 0 (pos 768) modes.SidewaysRl bases.Alphabetic) (part (record { node = 2; ordinal = 0 }) (record { x = (pos 2688); y = (pos 512); w = (pos 1024); h = (pos 512) }) (run kinds.Along 0 None (record { first = 0; end = 1; extent = (pos 512); glyphs = ((97 ∷ []) ∷ []) } ∷ [])) nothing nothing) nothing) (part (record { node = 3; ordinal = 0 }) (record { x = (pos 2688); y = (pos 512); w = (pos 0); h = (pos 10944) }) (block modes.SidewaysRl directions.Ltr (record { i = (pos 0); b = (pos 0); inline = (pos 10944); block = (pos 0) }) None (record { positive = (pos 0); negative = (pos 0) }) (record { positive = (pos 0); negative = (pos 0) }) true) nothing nothing)) nothing) nothing) }
place-13 = refl

place-14 : place (record { inline = (pos 12800); block = (pos 6400) }) (piece (record { node = 0; ordinal = 0 }) (record { i = (pos 0); b = (pos 0); inline = (pos 12800); block = (pos 1024) }) (block modes.VerticalLr directions.Ltr (record { i = (pos 0); b = (pos 0); inline = (pos 12800); block = (pos 1024) }) None (record { positive = (pos 0); negative = (pos 0) }) (record { positive = (pos 0); negative = (pos 0) }) false) (piece (record { node = 1; ordinal = 0 }) (record { i = (pos 0); b = (pos 0); inline = (pos 12800); block = (pos 1024) }) (block modes.VerticalLr directions.Ltr (record { i = (pos 0); b = (pos 0); inline = (pos 12800); block = (pos 1024) }) None (record { positive = (pos 0); negative = (pos 0) }) (record { positive = (pos 0); negative = (pos 0) }) false) (piece (record { node = 1; ordinal = 1 }) (record { i = (pos 0); b = (pos 0); inline = (pos 12800); block = (pos 1024) }) (block modes.VerticalLr directions.Ltr (record { i = (pos 0); b = (pos 0); inline = (pos 12800); block = (pos 1024) }) None (record { positive = (pos 0); negative = (pos 0) }) (record { positive = (pos 0); negative = (pos 0) }) false) (piece (record { node = 1; ordinal = 1 }) (record { i = (pos 0); b = (pos 0); inline = (pos 12800); block = (pos 1024) }) (line 0 (pos 512) modes.VerticalLr bases.Central) (piece (record { node = 2; ordinal = 0 }) (record { i = (pos 0); b = (pos 0); inline = (pos 512); block = (pos 1024) }) (run kinds.Turned 0 None (record { first = 0; end = 1; extent = (pos 512); glyphs = ((97 ∷ []) ∷ []) } ∷ [])) none none) none) (piece (record { node = 3; ordinal = 0 }) (record { i = (pos 0); b = (pos 1024); inline = (pos 3840); block = (pos 0) }) (block modes.VerticalLr directions.Ltr (record { i = (pos 0); b = (pos 0); inline = (pos 3840); block = (pos 0) }) None (record { positive = (pos 0); negative = (pos 0) }) (record { positive = (pos 0); negative = (pos 0) }) false) (piece (record { node = 4; ordinal = 0 }) (record { i = (pos 0); b = (pos 0); inline = (pos 0); block = (pos 0) }) (block modes.HorizontalTb directions.Rtl (record { i = (pos 0); b = (pos 0); inline = (pos 0); block = (pos 0) }) (Some (pos 0)) (record { positive = (pos 0); negative = (pos 0) }) (record { positive = (pos 0); negative = (pos 0) }) false) none none) (piece (record { node = 5; ordinal = 0 }) (record { i = (pos 0); b = (pos 1024); inline = (pos 6400); block = (pos 0) }) (block modes.VerticalLr directions.Ltr (record { i = (pos 0); b = (pos 0); inline = (pos 6400); block = (pos 0) }) None (record { positive = (pos 0); negative = (pos 0) }) (record { positive = (pos 0); negative = (pos 0) }) true) none none))) none) none) ≡ record { view = (record { inline = (pos 12800); block = (pos 6400) }); parts = (part (record { node = 0; ordinal = 0 }) (record { x = (pos 0); y = (pos 0); w = (pos 1024); h = (pos 12800) }) (block modes.VerticalLr directions.Ltr (record { i = (pos 0); b = (pos 0); inline = (pos 12800); block = (pos 1024) }) None (record { positive = (pos 0); negative = (pos 0) }) (record { positive = (pos 0); negative = (pos 0) }) false) (part (record { node = 1; ordinal = 0 }) (record { x = (pos 0); y = (pos 0); w = (pos 1024); h = (pos 12800) }) (block modes.VerticalLr directions.Ltr (record { i = (pos 0); b = (pos 0); inline = (pos 12800); block = (pos 1024) }) None (record { positive = (pos 0); negative = (pos 0) }) (record { positive = (pos 0); negative = (pos 0) }) false) (part (record { node = 1; ordinal = 1 }) (record { x = (pos 0); y = (pos 0); w = (pos 1024); h = (pos 12800) }) (block modes.VerticalLr directions.Ltr (record { i = (pos 0); b = (pos 0); inline = (pos 12800); block = (pos 1024) }) None (record { positive = (pos 0); negative = (pos 0) }) (record { positive = (pos 0); negative = (pos 0) }) false) (part (record { node = 1; ordinal = 1 }) (record { x = (pos 0); y = (pos 0); w = (pos 1024); h = (pos 12800) }) (line 0 (pos 512) modes.VerticalLr bases.Central) (part (record { node = 2; ordinal = 0 }) (record { x = (pos 0); y = (pos 0); w = (pos 1024); h = (pos 512) }) (run kinds.Turned 0 None (record { first = 0; end = 1; extent = (pos 512); glyphs = ((97 ∷ []) ∷ []) } ∷ [])) nothing nothing) nothing) (part (record { node = 3; ordinal = 0 }) (record { x = (pos 1024); y = (pos 0); w = (pos 0); h = (pos 3840) }) (block modes.VerticalLr directions.Ltr (record { i = (pos 0); b = (pos 0); inline = (pos 3840); block = (pos 0) }) None (record { positive = (pos 0); negative = (pos 0) }) (record { positive = (pos 0); negative = (pos 0) }) false) (part (record { node = 4; ordinal = 0 }) (record { x = (pos 1024); y = (pos 0); w = (pos 0); h = (pos 0) }) (block modes.HorizontalTb directions.Rtl (record { i = (pos 0); b = (pos 0); inline = (pos 0); block = (pos 0) }) (Some (pos 0)) (record { positive = (pos 0); negative = (pos 0) }) (record { positive = (pos 0); negative = (pos 0) }) false) nothing nothing) (part (record { node = 5; ordinal = 0 }) (record { x = (pos 1024); y = (pos 0); w = (pos 0); h = (pos 6400) }) (block modes.VerticalLr directions.Ltr (record { i = (pos 0); b = (pos 0); inline = (pos 6400); block = (pos 0) }) None (record { positive = (pos 0); negative = (pos 0) }) (record { positive = (pos 0); negative = (pos 0) }) true) nothing nothing))) nothing) nothing) }
place-14 = refl

place-15 : place (record { inline = (pos 2880); block = (pos 11008) }) (piece (record { node = 0; ordinal = 0 }) (record { i = (pos 0); b = (pos 0); inline = (pos 2880); block = (pos 1664) }) (block modes.VerticalRl directions.Ltr (record { i = (pos 0); b = (pos 0); inline = (pos 2880); block = (pos 1664) }) None (record { positive = (pos 0); negative = (pos 0) }) (record { positive = (pos 0); negative = (pos 0) }) false) (piece (record { node = 1; ordinal = 0 }) (record { i = (pos 0); b = (pos 0); inline = (pos 2880); block = (pos 1664) }) (block modes.VerticalRl directions.Ltr (record { i = (pos 0); b = (pos 0); inline = (pos 2880); block = (pos 1664) }) None (record { positive = (pos 0); negative = (pos 0) }) (record { positive = (pos 0); negative = (pos 0) }) false) (piece (record { node = 1; ordinal = 1 }) (record { i = (pos 0); b = (pos 0); inline = (pos 2880); block = (pos 1024) }) (block modes.VerticalRl directions.Ltr (record { i = (pos 0); b = (pos 0); inline = (pos 2880); block = (pos 1024) }) None (record { positive = (pos 0); negative = (pos 0) }) (record { positive = (pos 0); negative = (pos 0) }) false) (piece (record { node = 1; ordinal = 1 }) (record { i = (pos 0); b = (pos 0); inline = (pos 2880); block = (pos 1024) }) (line 0 (pos 512) modes.VerticalRl bases.Central) (piece (record { node = 2; ordinal = 0 }) (record { i = (pos 0); b = (pos 0); inline = (pos 512); block = (pos 1024) }) (run kinds.Turned 0 None (record { first = 0; end = 1; extent = (pos 512); glyphs = ((97 ∷ []) ∷ []) } ∷ [])) none none) none) (piece (record { node = 3; ordinal = 0 }) (record { i = (pos 0); b = (pos 1024); inline = (pos 2880); block = (pos 640) }) (block modes.VerticalRl directions.Rtl (record { i = (pos 0); b = (pos 0); inline = (pos 2880); block = (pos 640) }) (Some (pos 640)) (record { positive = (pos 0); negative = (pos 0) }) (record { positive = (pos 0); negative = (pos 0) }) false) (piece (record { node = 4; ordinal = 0 }) (record { i = (pos 0); b = (pos 0); inline = (pos 2880); block = (pos 0) }) (block modes.SidewaysRl directions.Rtl (record { i = (pos 0); b = (pos 0); inline = (pos 2880); block = (pos 0) }) None (record { positive = (pos 0); negative = (pos 0) }) (record { positive = (pos 0); negative = (pos 0) }) false) none (piece (record { node = 5; ordinal = 0 }) (record { i = (pos 0); b = (pos 0); inline = (pos 2880); block = (pos 2470) }) (block modes.VerticalRl directions.Rtl (record { i = (pos 288); b = (pos 0); inline = (pos 2592); block = (pos 2470) }) None (record { positive = (pos 0); negative = (pos 0) }) (record { positive = (pos 320); negative = (negsuc 191) }) false) (piece (record { node = 6; ordinal = 0 }) (record { i = (pos 0); b = (pos 0); inline = (pos 2592); block = (pos 1446) }) (block modes.VerticalRl directions.Ltr (record { i = (pos 0); b = (pos 0); inline = (pos 2592); block = (pos 1446) }) None (record { positive = (pos 0); negative = (pos 0) }) (record { positive = (pos 0); negative = (pos 0) }) false) (piece (record { node = 8; ordinal = 0 }) (record { i = (pos 1760); b = (pos 0); inline = (pos 640); block = (pos 320) }) (block modes.VerticalRl directions.Ltr (record { i = (pos 0); b = (pos 0); inline = (pos 640); block = (pos 320) }) None (record { positive = (pos 0); negative = (pos 0) }) (record { positive = (pos 0); negative = (pos 0) }) false) none (piece (record { node = 6; ordinal = 1 }) (record { i = (pos 0); b = (pos 320); inline = (pos 2592); block = (pos 1024) }) (block modes.VerticalRl directions.Ltr (record { i = (pos 0); b = (pos 0); inline = (pos 2592); block = (pos 1024) }) None (record { positive = (pos 0); negative = (pos 0) }) (record { positive = (pos 0); negative = (pos 0) }) false) (piece (record { node = 6; ordinal = 1 }) (record { i = (pos 0); b = (pos 0); inline = (pos 2592); block = (pos 1024) }) (line 0 (pos 512) modes.VerticalRl bases.Central) (piece (record { node = 9; ordinal = 0 }) (record { i = (pos 0); b = (pos 0); inline = (pos 512); block = (pos 1024) }) (run kinds.Turned 0 None (record { first = 0; end = 1; extent = (pos 512); glyphs = ((97 ∷ []) ∷ []) } ∷ [])) none none) none) (piece (record { node = 10; ordinal = 0 }) (record { i = (pos 0); b = (pos 1344); inline = (pos 2592); block = (pos 102) }) (block modes.VerticalRl directions.Ltr (record { i = (pos 0); b = (pos 102); inline = (pos 2592); block = (pos 0) }) None (record { positive = (pos 0); negative = (pos 0) }) (record { positive = (pos 0); negative = (pos 0) }) false) none none))) (piece (record { node = 5; ordinal = 1 }) (record { i = (pos 0); b = (pos 1446); inline = (pos 2592); block = (pos 1024) }) (block modes.VerticalRl directions.Rtl (record { i = (pos 0); b = (pos 0); inline = (pos 2592); block = (pos 1024) }) None (record { positive = (pos 0); negative = (pos 0) }) (record { positive = (pos 0); negative = (pos 0) }) false) (piece (record { node = 5; ordinal = 1 }) (record { i = (pos 0); b = (pos 0); inline = (pos 2592); block = (pos 1024) }) (line 0 (pos 512) modes.VerticalRl bases.Central) (piece (record { node = 11; ordinal = 0 }) (record { i = (pos 2080); b = (pos 0); inline = (pos 512); block = (pos 1024) }) (run kinds.Turned 2 None (record { first = 0; end = 1; extent = (pos 512); glyphs = ((97 ∷ []) ∷ []) } ∷ [])) none none) none) (piece (record { node = 12; ordinal = 0 }) (record { i = (pos 0); b = (pos 2790); inline = (pos 2592); block = (pos 0) }) (block modes.VerticalRl directions.Rtl (record { i = (pos 0); b = (pos 0); inline = (pos 2592); block = (pos 0) }) None (record { positive = (pos 320); negative = (pos 0) }) (record { positive = (pos 0); negative = (negsuc 191) }) true) none none))) (piece (record { node = 13; ordinal = 0 }) (record { i = (pos 0); b = (pos 2598); inline = (pos 2880); block = (pos 0) }) (block modes.VerticalRl directions.Ltr (record { i = (pos 0); b = (pos 0); inline = (pos 2880); block = (pos 0) }) None (record { positive = (pos 0); negative = (pos 0) }) (record { positive = (pos 0); negative = (pos 0) }) true) none none))) none)) none) none) ≡ record { view = (record { inline = (pos 2880); block = (pos 11008) }); parts = (part (record { node = 0; ordinal = 0 }) (record { x = (pos 9344); y = (pos 0); w = (pos 1664); h = (pos 2880) }) (block modes.VerticalRl directions.Ltr (record { i = (pos 0); b = (pos 0); inline = (pos 2880); block = (pos 1664) }) None (record { positive = (pos 0); negative = (pos 0) }) (record { positive = (pos 0); negative = (pos 0) }) false) (part (record { node = 1; ordinal = 0 }) (record { x = (pos 9344); y = (pos 0); w = (pos 1664); h = (pos 2880) }) (block modes.VerticalRl directions.Ltr (record { i = (pos 0); b = (pos 0); inline = (pos 2880); block = (pos 1664) }) None (record { positive = (pos 0); negative = (pos 0) }) (record { positive = (pos 0); negative = (pos 0) }) false) (part (record { node = 1; ordinal = 1 }) (record { x = (pos 9984); y = (pos 0); w = (pos 1024); h = (pos 2880) }) (block modes.VerticalRl directions.Ltr (record { i = (pos 0); b = (pos 0); inline = (pos 2880); block = (pos 1024) }) None (record { positive = (pos 0); negative = (pos 0) }) (record { positive = (pos 0); negative = (pos 0) }) false) (part (record { node = 1; ordinal = 1 }) (record { x = (pos 9984); y = (pos 0); w = (pos 1024); h = (pos 2880) }) (line 0 (pos 512) modes.VerticalRl bases.Central) (part (record { node = 2; ordinal = 0 }) (record { x = (pos 9984); y = (pos 0); w = (pos 1024); h = (pos 512) }) (run kinds.Turned 0 None (record { first = 0; end = 1; extent = (pos 512); glyphs = ((97 ∷ []) ∷ []) } ∷ [])) nothing nothing) nothing) (part (record { node = 3; ordinal = 0 }) (record { x = (pos 9344); y = (pos 0); w = (pos 640); h = (pos 2880) }) (block modes.VerticalRl directions.Rtl (record { i = (pos 0); b = (pos 0); inline = (pos 2880); block = (pos 640) }) (Some (pos 640)) (record { positive = (pos 0); negative = (pos 0) }) (record { positive = (pos 0); negative = (pos 0) }) false) (part (record { node = 4; ordinal = 0 }) (record { x = (pos 9984); y = (pos 0); w = (pos 0); h = (pos 2880) }) (block modes.SidewaysRl directions.Rtl (record { i = (pos 0); b = (pos 0); inline = (pos 2880); block = (pos 0) }) None (record { positive = (pos 0); negative = (pos 0) }) (record { positive = (pos 0); negative = (pos 0) }) false) nothing (part (record { node = 5; ordinal = 0 }) (record { x = (pos 7514); y = (pos 0); w = (pos 2470); h = (pos 2880) }) (block modes.VerticalRl directions.Rtl (record { i = (pos 288); b = (pos 0); inline = (pos 2592); block = (pos 2470) }) None (record { positive = (pos 0); negative = (pos 0) }) (record { positive = (pos 320); negative = (negsuc 191) }) false) (part (record { node = 6; ordinal = 0 }) (record { x = (pos 8538); y = (pos 0); w = (pos 1446); h = (pos 2592) }) (block modes.VerticalRl directions.Ltr (record { i = (pos 0); b = (pos 0); inline = (pos 2592); block = (pos 1446) }) None (record { positive = (pos 0); negative = (pos 0) }) (record { positive = (pos 0); negative = (pos 0) }) false) (part (record { node = 8; ordinal = 0 }) (record { x = (pos 9664); y = (pos 1760); w = (pos 320); h = (pos 640) }) (block modes.VerticalRl directions.Ltr (record { i = (pos 0); b = (pos 0); inline = (pos 640); block = (pos 320) }) None (record { positive = (pos 0); negative = (pos 0) }) (record { positive = (pos 0); negative = (pos 0) }) false) nothing (part (record { node = 6; ordinal = 1 }) (record { x = (pos 8640); y = (pos 0); w = (pos 1024); h = (pos 2592) }) (block modes.VerticalRl directions.Ltr (record { i = (pos 0); b = (pos 0); inline = (pos 2592); block = (pos 1024) }) None (record { positive = (pos 0); negative = (pos 0) }) (record { positive = (pos 0); negative = (pos 0) }) false) (part (record { node = 6; ordinal = 1 }) (record { x = (pos 8640); y = (pos 0); w = (pos 1024); h = (pos 2592) }) (line 0 (pos 512) modes.VerticalRl bases.Central) (part (record { node = 9; ordinal = 0 }) (record { x = (pos 8640); y = (pos 0); w = (pos 1024); h = (pos 512) }) (run kinds.Turned 0 None (record { first = 0; end = 1; extent = (pos 512); glyphs = ((97 ∷ []) ∷ []) } ∷ [])) nothing nothing) nothing) (part (record { node = 10; ordinal = 0 }) (record { x = (pos 8538); y = (pos 0); w = (pos 102); h = (pos 2592) }) (block modes.VerticalRl directions.Ltr (record { i = (pos 0); b = (pos 102); inline = (pos 2592); block = (pos 0) }) None (record { positive = (pos 0); negative = (pos 0) }) (record { positive = (pos 0); negative = (pos 0) }) false) nothing nothing))) (part (record { node = 5; ordinal = 1 }) (record { x = (pos 7514); y = (pos 0); w = (pos 1024); h = (pos 2592) }) (block modes.VerticalRl directions.Rtl (record { i = (pos 0); b = (pos 0); inline = (pos 2592); block = (pos 1024) }) None (record { positive = (pos 0); negative = (pos 0) }) (record { positive = (pos 0); negative = (pos 0) }) false) (part (record { node = 5; ordinal = 1 }) (record { x = (pos 7514); y = (pos 0); w = (pos 1024); h = (pos 2592) }) (line 0 (pos 512) modes.VerticalRl bases.Central) (part (record { node = 11; ordinal = 0 }) (record { x = (pos 7514); y = (pos 2080); w = (pos 1024); h = (pos 512) }) (run kinds.Turned 2 None (record { first = 0; end = 1; extent = (pos 512); glyphs = ((97 ∷ []) ∷ []) } ∷ [])) nothing nothing) nothing) (part (record { node = 12; ordinal = 0 }) (record { x = (pos 7194); y = (pos 0); w = (pos 0); h = (pos 2592) }) (block modes.VerticalRl directions.Rtl (record { i = (pos 0); b = (pos 0); inline = (pos 2592); block = (pos 0) }) None (record { positive = (pos 320); negative = (pos 0) }) (record { positive = (pos 0); negative = (negsuc 191) }) true) nothing nothing))) (part (record { node = 13; ordinal = 0 }) (record { x = (pos 7386); y = (pos 0); w = (pos 0); h = (pos 2880) }) (block modes.VerticalRl directions.Ltr (record { i = (pos 0); b = (pos 0); inline = (pos 2880); block = (pos 0) }) None (record { positive = (pos 0); negative = (pos 0) }) (record { positive = (pos 0); negative = (pos 0) }) true) nothing nothing))) nothing)) nothing) nothing) }
place-15 = refl

place-16 : place (record { inline = (pos 12800); block = (pos 6400) }) (piece (record { node = 0; ordinal = 0 }) (record { i = (pos 0); b = (pos 0); inline = (pos 12800); block = (pos 1024) }) (block modes.HorizontalTb directions.Rtl (record { i = (pos 0); b = (pos 0); inline = (pos 12800); block = (pos 1024) }) None (record { positive = (pos 0); negative = (pos 0) }) (record { positive = (pos 0); negative = (pos 0) }) false) (piece (record { node = 1; ordinal = 0 }) (record { i = (pos 512); b = (pos 192); inline = (pos 11776); block = (pos 320) }) (block modes.HorizontalTb directions.Rtl (record { i = (pos 0); b = (pos 0); inline = (pos 11776); block = (pos 320) }) None (record { positive = (pos 512); negative = (negsuc 319) }) (record { positive = (pos 512); negative = (pos 0) }) false) (piece (record { node = 2; ordinal = 0 }) (record { i = (pos 0); b = (pos 0); inline = (pos 11776); block = (pos 0) }) (block modes.HorizontalTb directions.Ltr (record { i = (pos 0); b = (pos 0); inline = (pos 11776); block = (pos 0) }) None (record { positive = (pos 320); negative = (pos 0) }) (record { positive = (pos 0); negative = (negsuc 191) }) true) (piece (record { node = 3; ordinal = 0 }) (record { i = (pos 256); b = (pos 0); inline = (pos 11392); block = (pos 0) }) (block modes.HorizontalTb directions.Ltr (record { i = (pos 0); b = (pos 0); inline = (pos 11392); block = (pos 0) }) None (record { positive = (pos 64); negative = (pos 0) }) (record { positive = (pos 192); negative = (pos 0) }) true) none none) (piece (record { node = 5; ordinal = 0 }) (record { i = (pos 0); b = (pos 0); inline = (pos 11776); block = (pos 320) }) (block modes.HorizontalTb directions.Rtl (record { i = (pos 0); b = (pos 0); inline = (pos 11776); block = (pos 320) }) None (record { positive = (pos 0); negative = (negsuc 319) }) (record { positive = (pos 0); negative = (pos 0) }) false) (piece (record { node = 6; ordinal = 0 }) (record { i = (pos 0); b = (pos 0); inline = (pos 2304); block = (pos 640) }) (block modes.VerticalRl directions.Ltr (record { i = (pos 192); b = (pos 0); inline = (pos 2112); block = (pos 640) }) None (record { positive = (pos 0); negative = (negsuc 319) }) (record { positive = (pos 0); negative = (negsuc 319) }) false) (piece (record { node = 6; ordinal = 1 }) (record { i = (pos 0); b = (pos 0); inline = (pos 640); block = (pos 1024) }) (block modes.VerticalRl directions.Ltr (record { i = (pos 0); b = (pos 0); inline = (pos 640); block = (pos 1024) }) None (record { positive = (pos 0); negative = (pos 0) }) (record { positive = (pos 0); negative = (pos 0) }) false) (piece (record { node = 6; ordinal = 1 }) (record { i = (pos 0); b = (pos 0); inline = (pos 640); block = (pos 1024) }) (line 0 (pos 512) modes.VerticalRl bases.Central) (piece (record { node = 7; ordinal = 0 }) (record { i = (pos 0); b = (pos 512); inline = (pos 192); block = (pos 0) }) (block modes.VerticalLr directions.Ltr (record { i = (pos 0); b = (pos 0); inline = (pos 192); block = (pos 0) }) None (record { positive = (pos 0); negative = (pos 0) }) (record { positive = (pos 0); negative = (pos 0) }) false) (piece (record { node = 9; ordinal = 0 }) (record { i = (pos 0); b = (pos 0); inline = (pos 19); block = (pos 0) }) (block modes.VerticalLr directions.Ltr (record { i = (pos 0); b = (pos 0); inline = (pos 19); block = (pos 0) }) None (record { positive = (pos 0); negative = (pos 0) }) (record { positive = (pos 0); negative = (pos 0) }) false) none (piece (record { node = 10; ordinal = 0 }) (record { i = (pos 0); b = (pos 0); inline = (pos 384); block = (pos 0) }) (block modes.VerticalLr directions.Ltr (record { i = (pos 192); b = (pos 0); inline = (pos 192); block = (pos 0) }) None (record { positive = (pos 0); negative = (pos 0) }) (record { positive = (pos 0); negative = (pos 0) }) true) none none)) none) none) (piece (record { node = 11; ordinal = 0 }) (record { i = (pos 0); b = (pos 1024); inline = (pos 640); block = (pos 832) }) (block modes.VerticalRl directions.Ltr (record { i = (pos 0); b = (pos 0); inline = (pos 640); block = (pos 832) }) None (record { positive = (pos 0); negative = (pos 0) }) (record { positive = (pos 0); negative = (pos 0) }) false) (piece (record { node = 12; ordinal = 0 }) (record { i = (pos 0); b = (pos 0); inline = (pos 1280); block = (pos 192) }) (block modes.VerticalRl directions.Rtl (record { i = (pos 0); b = (pos 192); inline = (pos 1280); block = (pos 0) }) None (record { positive = (pos 0); negative = (pos 0) }) (record { positive = (pos 0); negative = (pos 0) }) false) none (piece (record { node = 14; ordinal = 0 }) (record { i = (pos 0); b = (pos 192); inline = (pos 640); block = (pos 640) }) (block modes.VerticalRl directions.Ltr (record { i = (pos 0); b = (pos 0); inline = (pos 640); block = (pos 640) }) (Some (pos 640)) (record { positive = (pos 0); negative = (pos 0) }) (record { positive = (pos 0); negative = (pos 0) }) false) none (piece (record { node = 15; ordinal = 0 }) (record { i = (pos 0); b = (pos 832); inline = (pos 640); block = (pos 0) }) (block modes.VerticalRl directions.Ltr (record { i = (pos 0); b = (pos 0); inline = (pos 640); block = (pos 0) }) None (record { positive = (pos 0); negative = (pos 0) }) (record { positive = (pos 0); negative = (pos 0) }) true) none none))) (piece (record { node = 16; ordinal = 0 }) (record { i = (pos 0); b = (pos 1600); inline = (pos 640); block = (pos 768) }) (block modes.SidewaysLr directions.Ltr (record { i = (pos 0); b = (pos 0); inline = (pos 640); block = (pos 768) }) None (record { positive = (pos 0); negative = (negsuc 255) }) (record { positive = (pos 0); negative = (negsuc 255) }) false) (piece (record { node = 17; ordinal = 0 }) (record { i = (pos 192); b = (pos 0); inline = (pos 1408); block = (pos 0) }) (block modes.SidewaysLr directions.Rtl (record { i = (pos 128); b = (pos 0); inline = (pos 1280); block = (pos 0) }) None (record { positive = (pos 0); negative = (pos 0) }) (record { positive = (pos 0); negative = (pos 0) }) true) none (piece (record { node = 16; ordinal = 1 }) (record { i = (pos 0); b = (pos 0); inline = (pos 640); block = (pos 1024) }) (block modes.SidewaysLr directions.Ltr (record { i = (pos 0); b = (pos 0); inline = (pos 640); block = (pos 1024) }) None (record { positive = (pos 0); negative = (pos 0) }) (record { positive = (pos 0); negative = (pos 0) }) false) (piece (record { node = 16; ordinal = 1 }) (record { i = (pos 0); b = (pos 0); inline = (pos 640); block = (pos 1024) }) (line 0 (pos 768) modes.SidewaysLr bases.Alphabetic) (piece (record { node = 18; ordinal = 0 }) (record { i = (pos 0); b = (pos 0); inline = (pos 512); block = (pos 1024) }) (run kinds.Along 0 None (record { first = 0; end = 1; extent = (pos 512); glyphs = ((97 ∷ []) ∷ []) } ∷ [])) none none) none) (piece (record { node = 19; ordinal = 0 }) (record { i = (pos 0); b = (pos 768); inline = (pos 192); block = (pos 0) }) (block modes.SidewaysLr directions.Ltr (record { i = (pos 0); b = (pos 0); inline = (pos 192); block = (pos 0) }) None (record { positive = (pos 0); negative = (negsuc 255) }) (record { positive = (pos 0); negative = (negsuc 255) }) true) none (piece (record { node = 20; ordinal = 0 }) (record { i = (pos 0); b = (pos 768); inline = (pos 640); block = (pos 0) }) (block modes.SidewaysLr directions.Rtl (record { i = (pos 0); b = (pos 0); inline = (pos 640); block = (pos 0) }) None (record { positive = (pos 0); negative = (pos 0) }) (record { positive = (pos 0); negative = (pos 0) }) true) none none)))) none))) (piece (record { node = 21; ordinal = 0 }) (record { i = (negsuc 191); b = (pos 320); inline = (pos 0); block = (pos 0) }) (block modes.VerticalLr directions.Ltr (record { i = (pos 0); b = (pos 0); inline = (pos 0); block = (pos 0) }) (Some (pos 0)) (record { positive = (pos 0); negative = (pos 0) }) (record { positive = (pos 0); negative = (pos 0) }) false) none none)) none)) none) none) ≡ record { view = (record { inline = (pos 12800); block = (pos 6400) }); parts = (part (record { node = 0; ordinal = 0 }) (record { x = (pos 0); y = (pos 0); w = (pos 12800); h = (pos 1024) }) (block modes.HorizontalTb directions.Rtl (record { i = (pos 0); b = (pos 0); inline = (pos 12800); block = (pos 1024) }) None (record { positive = (pos 0); negative = (pos 0) }) (record { positive = (pos 0); negative = (pos 0) }) false) (part (record { node = 1; ordinal = 0 }) (record { x = (pos 512); y = (pos 192); w = (pos 11776); h = (pos 320) }) (block modes.HorizontalTb directions.Rtl (record { i = (pos 0); b = (pos 0); inline = (pos 11776); block = (pos 320) }) None (record { positive = (pos 512); negative = (negsuc 319) }) (record { positive = (pos 512); negative = (pos 0) }) false) (part (record { node = 2; ordinal = 0 }) (record { x = (pos 512); y = (pos 192); w = (pos 11776); h = (pos 0) }) (block modes.HorizontalTb directions.Ltr (record { i = (pos 0); b = (pos 0); inline = (pos 11776); block = (pos 0) }) None (record { positive = (pos 320); negative = (pos 0) }) (record { positive = (pos 0); negative = (negsuc 191) }) true) (part (record { node = 3; ordinal = 0 }) (record { x = (pos 768); y = (pos 192); w = (pos 11392); h = (pos 0) }) (block modes.HorizontalTb directions.Ltr (record { i = (pos 0); b = (pos 0); inline = (pos 11392); block = (pos 0) }) None (record { positive = (pos 64); negative = (pos 0) }) (record { positive = (pos 192); negative = (pos 0) }) true) nothing nothing) (part (record { node = 5; ordinal = 0 }) (record { x = (pos 512); y = (pos 192); w = (pos 11776); h = (pos 320) }) (block modes.HorizontalTb directions.Rtl (record { i = (pos 0); b = (pos 0); inline = (pos 11776); block = (pos 320) }) None (record { positive = (pos 0); negative = (negsuc 319) }) (record { positive = (pos 0); negative = (pos 0) }) false) (part (record { node = 6; ordinal = 0 }) (record { x = (pos 9984); y = (pos 192); w = (pos 2304); h = (pos 640) }) (block modes.VerticalRl directions.Ltr (record { i = (pos 192); b = (pos 0); inline = (pos 2112); block = (pos 640) }) None (record { positive = (pos 0); negative = (negsuc 319) }) (record { positive = (pos 0); negative = (negsuc 319) }) false) (part (record { node = 6; ordinal = 1 }) (record { x = (pos 11072); y = (pos 192); w = (pos 1024); h = (pos 640) }) (block modes.VerticalRl directions.Ltr (record { i = (pos 0); b = (pos 0); inline = (pos 640); block = (pos 1024) }) None (record { positive = (pos 0); negative = (pos 0) }) (record { positive = (pos 0); negative = (pos 0) }) false) (part (record { node = 6; ordinal = 1 }) (record { x = (pos 11072); y = (pos 192); w = (pos 1024); h = (pos 640) }) (line 0 (pos 512) modes.VerticalRl bases.Central) (part (record { node = 7; ordinal = 0 }) (record { x = (pos 11584); y = (pos 192); w = (pos 0); h = (pos 192) }) (block modes.VerticalLr directions.Ltr (record { i = (pos 0); b = (pos 0); inline = (pos 192); block = (pos 0) }) None (record { positive = (pos 0); negative = (pos 0) }) (record { positive = (pos 0); negative = (pos 0) }) false) (part (record { node = 9; ordinal = 0 }) (record { x = (pos 11584); y = (pos 192); w = (pos 0); h = (pos 19) }) (block modes.VerticalLr directions.Ltr (record { i = (pos 0); b = (pos 0); inline = (pos 19); block = (pos 0) }) None (record { positive = (pos 0); negative = (pos 0) }) (record { positive = (pos 0); negative = (pos 0) }) false) nothing (part (record { node = 10; ordinal = 0 }) (record { x = (pos 11584); y = (pos 192); w = (pos 0); h = (pos 384) }) (block modes.VerticalLr directions.Ltr (record { i = (pos 192); b = (pos 0); inline = (pos 192); block = (pos 0) }) None (record { positive = (pos 0); negative = (pos 0) }) (record { positive = (pos 0); negative = (pos 0) }) true) nothing nothing)) nothing) nothing) (part (record { node = 11; ordinal = 0 }) (record { x = (pos 10240); y = (pos 192); w = (pos 832); h = (pos 640) }) (block modes.VerticalRl directions.Ltr (record { i = (pos 0); b = (pos 0); inline = (pos 640); block = (pos 832) }) None (record { positive = (pos 0); negative = (pos 0) }) (record { positive = (pos 0); negative = (pos 0) }) false) (part (record { node = 12; ordinal = 0 }) (record { x = (pos 10880); y = (pos 192); w = (pos 192); h = (pos 1280) }) (block modes.VerticalRl directions.Rtl (record { i = (pos 0); b = (pos 192); inline = (pos 1280); block = (pos 0) }) None (record { positive = (pos 0); negative = (pos 0) }) (record { positive = (pos 0); negative = (pos 0) }) false) nothing (part (record { node = 14; ordinal = 0 }) (record { x = (pos 10240); y = (pos 192); w = (pos 640); h = (pos 640) }) (block modes.VerticalRl directions.Ltr (record { i = (pos 0); b = (pos 0); inline = (pos 640); block = (pos 640) }) (Some (pos 640)) (record { positive = (pos 0); negative = (pos 0) }) (record { positive = (pos 0); negative = (pos 0) }) false) nothing (part (record { node = 15; ordinal = 0 }) (record { x = (pos 10240); y = (pos 192); w = (pos 0); h = (pos 640) }) (block modes.VerticalRl directions.Ltr (record { i = (pos 0); b = (pos 0); inline = (pos 640); block = (pos 0) }) None (record { positive = (pos 0); negative = (pos 0) }) (record { positive = (pos 0); negative = (pos 0) }) true) nothing nothing))) (part (record { node = 16; ordinal = 0 }) (record { x = (pos 9728); y = (pos 192); w = (pos 768); h = (pos 640) }) (block modes.SidewaysLr directions.Ltr (record { i = (pos 0); b = (pos 0); inline = (pos 640); block = (pos 768) }) None (record { positive = (pos 0); negative = (negsuc 255) }) (record { positive = (pos 0); negative = (negsuc 255) }) false) (part (record { node = 17; ordinal = 0 }) (record { x = (pos 9728); y = (negsuc 767); w = (pos 0); h = (pos 1408) }) (block modes.SidewaysLr directions.Rtl (record { i = (pos 128); b = (pos 0); inline = (pos 1280); block = (pos 0) }) None (record { positive = (pos 0); negative = (pos 0) }) (record { positive = (pos 0); negative = (pos 0) }) true) nothing (part (record { node = 16; ordinal = 1 }) (record { x = (pos 9728); y = (pos 192); w = (pos 1024); h = (pos 640) }) (block modes.SidewaysLr directions.Ltr (record { i = (pos 0); b = (pos 0); inline = (pos 640); block = (pos 1024) }) None (record { positive = (pos 0); negative = (pos 0) }) (record { positive = (pos 0); negative = (pos 0) }) false) (part (record { node = 16; ordinal = 1 }) (record { x = (pos 9728); y = (pos 192); w = (pos 1024); h = (pos 640) }) (line 0 (pos 768) modes.SidewaysLr bases.Alphabetic) (part (record { node = 18; ordinal = 0 }) (record { x = (pos 9728); y = (pos 320); w = (pos 1024); h = (pos 512) }) (run kinds.Along 0 None (record { first = 0; end = 1; extent = (pos 512); glyphs = ((97 ∷ []) ∷ []) } ∷ [])) nothing nothing) nothing) (part (record { node = 19; ordinal = 0 }) (record { x = (pos 10496); y = (pos 640); w = (pos 0); h = (pos 192) }) (block modes.SidewaysLr directions.Ltr (record { i = (pos 0); b = (pos 0); inline = (pos 192); block = (pos 0) }) None (record { positive = (pos 0); negative = (negsuc 255) }) (record { positive = (pos 0); negative = (negsuc 255) }) true) nothing (part (record { node = 20; ordinal = 0 }) (record { x = (pos 10496); y = (pos 192); w = (pos 0); h = (pos 640) }) (block modes.SidewaysLr directions.Rtl (record { i = (pos 0); b = (pos 0); inline = (pos 640); block = (pos 0) }) None (record { positive = (pos 0); negative = (pos 0) }) (record { positive = (pos 0); negative = (pos 0) }) true) nothing nothing)))) nothing))) (part (record { node = 21; ordinal = 0 }) (record { x = (pos 12480); y = (pos 512); w = (pos 0); h = (pos 0) }) (block modes.VerticalLr directions.Ltr (record { i = (pos 0); b = (pos 0); inline = (pos 0); block = (pos 0) }) (Some (pos 0)) (record { positive = (pos 0); negative = (pos 0) }) (record { positive = (pos 0); negative = (pos 0) }) false) nothing nothing)) nothing)) nothing) nothing) }
place-16 = refl
