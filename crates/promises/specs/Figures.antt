-- 01, 'Figures to hold against': 'Those marked P, 15 figures, are proved of the meanings themselves as one table under a single statement.'
-- One field for each line's figure, under the paper's words.
use Rattle.std.specs.Prelude.{◌≡◌, true, false, List, [], ◌∷◌, ◌++◌, ℕ, zero, suc, ◌+◌, ◌*◌, pos, neg_ℤ, length, replicate, Some}
use Rattle.std.specs.Float.{nan, binary32}
use Rattle.std.specs.Float.Ieee.{of_bits}
use Rattle.refusals.specs.Told.{done, refused, fine, unless, left_by}
use Rattle.octets.specs.Octets.{bytes_of}
use Rattle.group.specs.Mean.{mean_of}
use Rattle.group.specs.Repeatability.{qualifies, first_group, nine_unless}
use Rattle.factors.specs.Answers.{cts_of, cps_of, cpl_of}
use Rattle.factors.specs.declared.Metal.TheVariants.{MildCarbon, Stainless316, Certified}
use Rattle.factors.specs.declared.Prover.{Prover}
use Rattle.run.specs.Answers.{worked_of}
use Rattle.run.specs.declared.Run.{Run}
use Rattle.report.specs.Record.{bytes_of_report}
use Rattle.report.specs.Judged.{report_of, write_of, read_of}
use Rattle.proving.specs.Job.{five_at}
use Rattle.draw.specs.Base.{barrels_of}
use Rattle.draw.specs.Profile.{volumes_of}
use Rattle.draw.specs.Answers.{fill_of, draw_of}
use Rattle.draw.specs.declared.Profile.TheVariants.{Unidirectional}
use Rattle.ticket.specs.Answers.{ticket_of}
use Rattle.ticket.specs.declared.Ticket.{Ticket}
use Rattle.live.specs.Live.{temperature_of, live_of}
use Rattle.live.specs.Panel.{panel_temperature_of, panel_pressure_of}
use Rattle.book.specs.Figures.{empty_book}
use Rattle.book.specs.Calls.{request_of, after_request}
use Rattle.book.specs.declared.Book.{Book}

-- 'base 20.0000, mild, E 30,000,000, the same pipe'
unfoldable pub prover : Prover
prover = record { metal = MildCarbon; pipe = record { diameter = 10020; wall = 365; modulus = 30000000 }; base = 200000 }

-- '73.5 °F, 40 psi, F 820, CTL 0.9907'; '200,000 pulses, .. meter CTL 0.9908, 40 psi, F 820'; and with a count in thousandths
unfoldable pub interpolated : ℕ → Run
interpolated thousandths = record {
  pulses = thousandths;
  prover = record { temperature = pos 735; ctl = 9907; liquid = record { pressure = 40; compressibility = 820; equilibrium = 0 } };
  meter = record { temperature = pos 735; ctl = 9908; liquid = record { pressure = 40; compressibility = 820; equilibrium = 0 } };
}

unfoldable pub run : ℕ → Run
run pulses = interpolated (pulses * 1000)

-- propane, as Figure 6 of 000 prints it: base 2.0734, 12 inch pipe, wall 0.375, E 30,000,000; at this pressure at the prover, 395 psi at the meter
unfoldable pub propane_prover : Prover
propane_prover = record { metal = MildCarbon; pipe = record { diameter = 12000; wall = 375; modulus = 30000000 }; base = 20734 }

unfoldable pub propane : ℕ → Run
propane pressure = record {
  pulses = 28631 * 1000;
  prover = record { temperature = pos 770; ctl = 9780; liquid = record { pressure = pressure; compressibility = 2850; equilibrium = 115 } };
  meter = record { temperature = pos 765; ctl = 9789; liquid = record { pressure = 395; compressibility = 2850; equilibrium = 115 } };
}

-- a fill record of the paper's numbers; a scale reading below zero stands as its word
unfoldable pub fill_bytes : ℕ → ℕ → ℕ → ℕ → ℕ → ℕ → ℕ → ℕ → List ℕ
fill_bytes certified scale prover measure coefficient ctdw pass pressure =
    bytes_of 4 certified ++ bytes_of 2 scale ++ bytes_of 2 prover ++ bytes_of 2 measure ++ bytes_of 2 coefficient ++ bytes_of 4 ctdw ++ (pass ∷ 0 ∷ []) ++ bytes_of 2 pressure ++ replicate 12 0

-- 'fill 11550.00, scale 0, prover 70.0, measure 70.5, both 265, CTDW 1.000060', of pass 1 at 0 psi; the prover's 265 is its metal's
unfoldable pub fill : List ℕ
fill = fill_bytes 1155000 0 700 705 265 1000060 1 0

-- '10010, 10000, 10001, 10002, 10003, 10005'
unfoldable pub six : List ℕ
six = 10010 ∷ 10000 ∷ 10001 ∷ 10002 ∷ 10003 ∷ 10005 ∷ []

-- four passes, the second of two fills, whose last three qualify; the second fill of pass 2 is of a pass and at a pressure given
unfoldable pub passes : ℕ → ℕ → List ℕ
passes pass pressure =
    fill_bytes 1155000 300 700 705 265 1000060 1 50
    ++ fill_bytes 1155000 0 700 705 265 1000060 2 50
    ++ fill_bytes 1155000 65486 701 705 265 1000061 pass pressure
    ++ fill_bytes 2310000 0 700 700 265 1000060 3 48
    ++ fill_bytes 2310100 0 700 705 265 1000060 4 50

-- 316 stainless, the same pipe; a base volume out of its range, which a draw does not judge
unfoldable pub drawn : Prover
drawn = record { metal = Stainless316; pipe = record { diameter = 10020; wall = 365; modulus = 28000000 }; base = 0 }

-- 1.0002, 0.9908, 40 psi, F 820, at these readings and this S
unfoldable pub ticket : ℕ → ℕ → ℕ → Ticket
ticket opening closing sediment =
    record { opening = opening; closing = closing; mf = 10002; ctl = 9908; liquid = record { pressure = 40; compressibility = 820; equilibrium = 0 }; sediment = sediment }

-- the report of those six factors: what a job leaves in a buffer, where a group of five is found
unfoldable pub report_on : List ℕ → List ℕ
report_on factors = left_by (unless fine (nine_unless (first_group 5 5 factors) (λ at. report_of 7 (length factors) (at + 1) (five_at factors at)))) bytes_of_report (replicate 32 255)

-- the book after a shipper has sent the numbers 1, 2, .. up to n
unfoldable pub sent : ℕ → ℕ → Book → Book
sent shipper zero book = book
sent shipper (suc n) book = after_request (sent shipper n book) shipper (suc n)

pub record Figures : Type 0 where
  -- 1. 'T 70.0, Gc 250, 4 places: CTS 1.0003 (half-to-even gives 1.0002).'
  pub cts_at_70 : cts_of 4 (Certified 250) (pos 700) ≡ done 10003
  -- 2. 'T 50.0: 0.9998.'
  pub cts_at_50 : cts_of 4 (Certified 250) (pos 500) ≡ done 9998
  -- 3. 'mild steel at 73.5, 6 places: 1.000251.'
  pub cts_of_mild_steel : cts_of 6 MildCarbon (pos 735) ≡ done 1000251
  -- 4. 'P 50, ID 10.020, WT 0.365, E 28,000,000, 6 places: 1.000049.'
  pub cps_at_50 : cps_of 6 (record { diameter = 10020; wall = 365; modulus = 28000000 }) 50 ≡ done 1000049
  -- 5. 'water at 50: 1.000160.'
  pub cpl_of_water : cpl_of 6 (record { pressure = 50; compressibility = 320; equilibrium = 0 }) ≡ done 1000160
  -- 6. 'base 20.0000, mild, E 30,000,000, the same pipe, 73.5 °F, 40 psi, F 820, CTL 0.9907: prover factor 0.9913, volume 19.8260.
  -- 200,000 pulses, K 10,000.000, meter CTL 0.9908, 40 psi, F 820: 19.8220. Run factor 1.0002.'
  pub one_run : worked_of prover 10000000 (run 200000) 1 ≡ done (record {
    indicated = 200000;
    cts = 10003;
    cps = 10000;
    prover = record { cpl = 10003; factor = 9913; volume = 198260 };
    meter = record { cpl = 10003; factor = 9911; volume = 198220 };
    factor = 10002;
  })
  -- 7. 'factors 10000, 10005, 10003, 10001, 10002 with limit 5: 1.0002.'
  pub five_qualify : qualifies 5 (10000 ∷ 10005 ∷ 10003 ∷ 10001 ∷ 10002 ∷ []) ≡ true
  pub five_mean : mean_of (10000 ∷ 10005 ∷ 10003 ∷ 10001 ∷ 10002 ∷ []) ≡ 10002
  -- 8. '9999 and 10003 in a five may stand;' 9. '9999 and 10004 may not.'
  pub may_stand : qualifies 5 (9999 ∷ 10003 ∷ 10000 ∷ 10001 ∷ 10002 ∷ []) ≡ true
  pub may_not : qualifies 5 (9999 ∷ 10004 ∷ 10000 ∷ 10001 ∷ 10002 ∷ []) ≡ false
  -- 10. '10010, 10000, 10001, 10002, 10003, 10005: group begins at run 2. Report for request 7:
  -- `07 00 00 00 12 27 02 06 10 27 11 27 12 27 13 27 15 27`, then 14 zero bytes.' (Places count from 0, runs from 1.)
  pub begins_at_run_2 : first_group 5 5 six ≡ Some 1
  pub report_for_7 : report_on six
      ≡ 0x07 ∷ 0x00 ∷ 0x00 ∷ 0x00 ∷ 0x12 ∷ 0x27 ∷ 0x02 ∷ 0x06 ∷ 0x10 ∷ 0x27 ∷ 0x11 ∷ 0x27 ∷ 0x12 ∷ 0x27 ∷ 0x13 ∷ 0x27 ∷ 0x15 ∷ 0x27 ∷ replicate 14 0
  pub report_read_back : read_of (report_on six) ≡ done (report_of 7 6 2 (five_at six 1))
  -- 11. 'fill 11550.00, scale 0, prover 70.0, measure 70.5, both 265, CTDW 1.000060: CCTS 1.000013, drawn 11550.84.
  -- 9702.00 cubic inches is 1.0000 barrel.'
  pub one_fill : fill_of Stainless316 fill ≡ done (record { adjusted = 1155000; measure = 1000278; prover = 1000265; ccts = 1000013; drawn = 1155084 })
  pub one_barrel : barrels_of 970200 ≡ 10000
  -- 12. 'ticket 100,000.00 to 100,500.00, 1.0002, 0.9908, 40 psi, F 820, S 500: factor 0.9913, gross 495.65, net 493.17.'
  pub one_ticket : ticket_of (ticket 10000000 10050000 500) ≡ done (record { factor = 9913; gross = 49565; net = 49317 })
  -- 13. '73.25 °F gives 733.' (0x42928000 are the bits of 73.25.) 14. '-0.25 °F gives -3.'
  pub reading_73 : temperature_of (of_bits binary32 0x4292_8000) ≡ done (pos 733)
  pub reading_below_0 : temperature_of (of_bits binary32 0xbe80_0000) ≡ done (neg_ℤ (pos 3))
  -- 15. 'shipper 0 sends nine: the ninth is 24. Shipper 1 sends five: the fifth is 25. Shipper 2's first goes in.'
  pub ninth : request_of (sent 0 8 empty_book) 0 9 ≡ refused 24 0
  pub fifth : request_of (sent 1 4 (sent 0 9 empty_book)) 1 5 ≡ refused 25 0
  pub first : request_of (sent 1 5 (sent 0 9 empty_book)) 2 1 ≡ done tt

-- Beside the table: what else the paper's sentences say of the same input.
pub record Besides : Type 0 where
  -- one pulse against a K of 1,000,000.000 indicates nothing; half the pulses, twice the factor
  pub no-volume : worked_of prover 1000000000 (run 1) 3 ≡ refused 7 3
  pub no_factor : worked_of prover 10000000 (run 100000) 3 ≡ refused 8 3
  -- 02: 'pulses in thousandths': a count of 200,000.600 is taken as it is, and 'divides the thousandths by K and rounds once'
  pub not_whole : worked_of prover 10000000 (interpolated 200000600) 1 ≡ done (record {
    indicated = 200001;
    cts = 10003;
    cps = 10000;
    prover = record { cpl = 10003; factor = 9913; volume = 198260 };
    meter = record { cpl = 10003; factor = 9911; volume = 198221 };
    factor = 10002;
  })
  -- 02: 'CPL becomes 1 / (1 - F × (P - Pe))': every printed value of the figure; at 115 psi CPL is 1; 'P below Pe is 5 in a record'
  pub figure_6 : worked_of propane_prover 13188000 (propane 385) 1 ≡ done (record {
    indicated = 21710;
    cts = 10003;
    cps = 10004;
    prover = record { cpl = 10078; factor = 9863; volume = 20450 };
    meter = record { cpl = 10080; factor = 9867; volume = 21421 };
    factor = 9547;
  })
  pub at_equilibrium : cpl_of 4 (propane 115).prover.liquid ≡ done 10000
  pub below_equilibrium : worked_of propane_prover 13188000 (propane 114) 3 ≡ refused 5 3
  -- 'Easy slips': taking the tightest five instead of the first; dividing the spread by the mean
  pub first_not_tightest : first_group 5 5 (10005 ∷ 10000 ∷ 10000 ∷ 10000 ∷ 10000 ∷ 10000 ∷ []) ≡ Some 0
  pub by_smallest_not_mean : qualifies 5 (9999 ∷ 10004 ∷ 10004 ∷ 10004 ∷ 10004 ∷ []) ≡ false
  -- a mean whose half goes up, and one of values that add up to more than 64 bits
  pub half_goes_up : mean_of (10000 ∷ 10001 ∷ []) ≡ 10001
  pub wide_mean : mean_of (18446744073709551615 ∷ 18446744073709551615 ∷ 18446744073709551612 ∷ []) ≡ 18446744073709551614
  -- 'The report writer alone ..: 14, 22, 15'
  pub buffer_first : write_of 31 0 6 2 (five_at six 1) ≡ refused 14 0
  pub number_next : write_of 32 0 4 2 (five_at six 1) ≡ refused 22 0
  pub report_last : write_of 32 7 6 3 (five_at six 1) ≡ refused 15 0
  -- the passes of a draw, the first three that qualify, and each way to break the pass rule
  pub pass_volumes : volumes_of Unidirectional drawn (passes 2 50) ≡ 1155143 ∷ 2309633 ∷ 2309675 ∷ 2309786 ∷ []
  pub from_second : draw_of Unidirectional drawn (passes 2 50) ≡ done (record { base = 2309698; barrels = 23806; first = 2 })
  pub back : draw_of Unidirectional drawn (passes 1 50) ≡ refused 6 3
  pub skipped : draw_of Unidirectional drawn (passes 4 50) ≡ refused 6 3
  pub mixed : draw_of Unidirectional drawn (passes 2 51) ≡ refused 6 3
  pub range_first : draw_of Unidirectional drawn (passes 4 1501) ≡ refused 5 3
  pub two_fills : draw_of Unidirectional drawn (fill ++ fill) ≡ refused 1 0
  pub one_pass : draw_of Unidirectional drawn (fill ++ fill ++ fill) ≡ refused 1 0
  -- equal readings are a ticket of nothing; a field out of range comes before closing below opening
  pub equal_readings : ticket_of (ticket 10000000 10000000 500) ≡ done (record { factor = 9913; gross = 0; net = 0 })
  pub closing_below : ticket_of (ticket 10050000 10000000 500) ≡ refused 11 0
  pub field_first : ticket_of (ticket 10050000 10000000 100001) ≡ refused 10 0
  -- '-0.4 psi gives 0; -0.5 psi is 13', beside 73.25 °F; '-0.0 gives 0'; the range is judged on the whole number: 200.04 °F is 2000; order
  pub little_below : live_of (of_bits binary32 0x4292_8000) (of_bits binary32 0xbecc_cccd) ≡ done (record { tenths = pos 733; psi = 0 })
  pub half_below : live_of (of_bits binary32 0x4292_8000) (of_bits binary32 0xbf00_0000) ≡ refused 13 0
  pub minus_zero : live_of (of_bits binary32 0x8000_0000) (of_bits binary32 0x8000_0000) ≡ done (record { tenths = pos 0; psi = 0 })
  pub just_within : live_of (of_bits binary32 0x4348_0a3d) (of_bits binary32 0) ≡ done (record { tenths = pos 2000; psi = 0 })
  pub temperature_first : live_of (of_bits binary32 0x4348_199a) nan ≡ refused 13 0
  -- what the panel shows: 73.3 °F; a tenth below zero; a half, which a single holds; the ends; one past each
  pub shown : panel_temperature_of (pos 733) ≡ done (of_bits binary32 0x4292_999a)
  pub shown_below_zero : panel_temperature_of (neg_ℤ (pos 1)) ≡ done (of_bits binary32 0xbdcc_cccd)
  pub shown_half : panel_temperature_of (pos 735) ≡ done (of_bits binary32 0x4293_0000)
  pub shown_coldest : panel_temperature_of (neg_ℤ (pos 200)) ≡ done (of_bits binary32 0xc1a0_0000)
  pub shown_hottest : panel_temperature_of (pos 2000) ≡ done (of_bits binary32 0x4348_0000)
  pub too_cold : panel_temperature_of (neg_ℤ (pos 201)) ≡ refused 13 0
  pub too_hot : panel_temperature_of (pos 2001) ≡ refused 13 0
  pub shown_pressure : panel_pressure_of 1500 ≡ done (of_bits binary32 0x44bb_8000)
  pub pressed_too_far : panel_pressure_of 1501 ≡ refused 13 0
