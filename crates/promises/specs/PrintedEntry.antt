-- 02, 'Look up compressibility', by figures: the one entry of the 11.2.1 table that 002's text prints, the half degrees that 002 and 000 print, the
-- ends of what may be asked, and the order of every two refusals that can meet. But for that entry the tables stand for no liquid.
use Rattle.std.specs.Prelude.{◌≡◌, List, [], ◌∷◌, ◌++◌, ℕ, ℤ, pos, neg_ℤ}
use Rattle.refusals.specs.Told.{Told, done, refused}
use Rattle.octets.specs.Octets.{bytes_of}
use Rattle.lookup.specs.HalfDegree.{half_degree_signed}
use Rattle.lookup.specs.Answers.{look_up_of}
use Rattle.lookup.specs.declared.Entry.{Entry}

-- a record's bytes; a temperature below zero is written as 65,536 less its size
unfoldable pub entry_bytes : ℕ → ℕ → ℕ → List ℕ
entry_bytes temperature gravity f = bytes_of 2 temperature ++ bytes_of 2 gravity ++ bytes_of 2 f ++ bytes_of 2 0

-- 20.0 °API at 100.0 °F, 'the F factor is 0.448 divided by 100,000', between two made-up neighbours
unfoldable pub printed : List ℕ
printed = entry_bytes 995 200 447 ++ entry_bytes 1000 200 448 ++ entry_bytes 1005 200 449

-- -0.5 °F and 0.0 °F at 0.0 °API
unfoldable pub around_zero : List ℕ
around_zero = entry_bytes 65531 0 1 ++ entry_bytes 0 0 2

-- the two ends of both ranges
unfoldable pub corners : List ℕ
corners = entry_bytes 65336 0 0 ++ entry_bytes 2000 900 10000

-- a second record with the first one's pair
unfoldable pub again : List ℕ
again = entry_bytes 1000 200 448 ++ entry_bytes 1000 200 449

abbrev pub entry : ℤ → ℕ → ℕ → Told Entry
entry t g f = done (record { temperature = t; gravity = g; compressibility = f })

pub record PrintedEntry : Type 0 where
  -- 002, 11.2.1.4: 19.9 °API, 100 °F; and its neighbours a half degree off
  pub example : look_up_of (pos 1000) 199 printed ≡ entry (pos 1000) 200 448
  pub just_below : look_up_of (pos 998) 202 printed ≡ entry (pos 1000) 200 448
  pub just_above : look_up_of (pos 1002) 198 printed ≡ entry (pos 1000) 200 448
  pub colder : look_up_of (pos 997) 200 printed ≡ entry (pos 995) 200 447
  pub warmer : look_up_of (pos 1003) 200 printed ≡ entry (pos 1005) 200 449
  -- 000, Figures 5 and 6: 63.5, 64.9, 77.0 and 76.6 °F
  pub figure_5_prover : half_degree_signed (pos 635) ≡ pos 635
  pub figure_5_meter : half_degree_signed (pos 649) ≡ pos 650
  pub figure_6_prover : half_degree_signed (pos 770) ≡ pos 770
  pub figure_6_meter : half_degree_signed (pos 766) ≡ pos 765
  -- below zero: -0.3 °F is -0.5, -0.2 °F is 0.0
  pub below-zero : look_up_of (neg_ℤ (pos 3)) 0 around_zero ≡ entry (neg_ℤ (pos 5)) 0 1
  pub at_zero : look_up_of (neg_ℤ (pos 2)) 2 around_zero ≡ entry (pos 0) 0 2
  -- the ends of what may be asked, and one past each, which its half degree would bring back into range
  pub least : look_up_of (neg_ℤ (pos 200)) 0 corners ≡ entry (neg_ℤ (pos 200)) 0 0
  pub most : look_up_of (pos 2000) 900 corners ≡ entry (pos 2000) 900 10000
  pub too_cold : look_up_of (neg_ℤ (pos 201)) 0 corners ≡ refused 13 0
  pub too_warm : look_up_of (pos 2001) 900 corners ≡ refused 13 0
  pub too_light : look_up_of (pos 2000) 901 corners ≡ refused 13 0
  -- '33 for no such pair': another temperature, another gravity
  pub not_at_101 : look_up_of (pos 1010) 200 printed ≡ refused 33 0
  pub not_of_205 : look_up_of (pos 1000) 203 printed ≡ refused 33 0
  -- 1 before all, 32 before 13 and before 33, 13 before 33
  pub no_record : look_up_of (pos 2001) 901 [] ≡ refused 1 0
  pub not_whole : look_up_of (pos 2001) 901 (again ++ (0 ∷ [])) ≡ refused 1 0
  pub twice : look_up_of (pos 1000) 200 again ≡ refused 32 2
  pub twice_first : look_up_of (pos 2001) 901 again ≡ refused 32 2
  pub twice_before_none : look_up_of (pos 1010) 200 again ≡ refused 32 2
  pub range_before_none : look_up_of (pos 2001) 200 printed ≡ refused 13 0
  -- 'rising by gravity and then temperature': a lower temperature may follow at a greater gravity, and not at a lesser
  pub gravity_first : look_up_of (pos 1000) 205 (entry_bytes 1005 200 1 ++ entry_bytes 1000 205 2) ≡ entry (pos 1000) 205 2
  pub gravity_falls : look_up_of (pos 1005) 200 (entry_bytes 1000 205 2 ++ entry_bytes 1005 200 1) ≡ refused 32 2
  -- each way in which a record is faulty: off a half degree, out of range, its last two bytes
  pub off_the_half : look_up_of (pos 1000) 200 (entry_bytes 1001 200 448) ≡ refused 32 1
  pub gravity_off_the_half : look_up_of (pos 1000) 200 (entry_bytes 1000 201 448) ≡ refused 32 1
  pub record_too_warm : look_up_of (pos 1000) 200 (entry_bytes 2005 200 448) ≡ refused 32 1
  pub record_too_light : look_up_of (pos 1000) 200 (entry_bytes 1000 905 448) ≡ refused 32 1
  pub f_too_large : look_up_of (pos 1000) 200 (entry_bytes 1000 200 10001) ≡ refused 32 1
  pub last_bytes : look_up_of (pos 1000) 200 (bytes_of 2 1000 ++ bytes_of 2 200 ++ bytes_of 2 448 ++ bytes_of 2 256) ≡ refused 32 1
