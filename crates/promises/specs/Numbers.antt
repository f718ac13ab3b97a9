-- 01, 'Numbers given back': the numbers that each entry can give, in the order in which it judges.
use Rattle.std.specs.Prelude.{List, [], ◌∷◌, ℕ}

-- CTS of a metal and CPS of a pipe, then the temperature or pressure; CPL of a liquid
abbrev pub setting_numbers : List ℕ
setting_numbers = 3 ∷ 5 ∷ []

abbrev pub liquid_numbers : List ℕ
liquid_numbers = 5 ∷ []

-- 'For a job that writes a report: 14, request number zero (22), then 1, 3, 4; then records first to last, each with 5, 2, 6; then 7 and 8
-- run by run; then 9.' A run has no pass, so 6 is the water draw's alone.
abbrev pub job_numbers : List ℕ
job_numbers = 14 ∷ 22 ∷ 1 ∷ 3 ∷ 4 ∷ 5 ∷ 2 ∷ 7 ∷ 8 ∷ 9 ∷ []

-- the same without a report
abbrev pub proving_numbers : List ℕ
proving_numbers = 1 ∷ 3 ∷ 4 ∷ 5 ∷ 2 ∷ 7 ∷ 8 ∷ 9 ∷ []

-- one run of a job: from its record, and from its fields
abbrev pub record_numbers : List ℕ
record_numbers = 1 ∷ 3 ∷ 4 ∷ 5 ∷ 2 ∷ 7 ∷ 8 ∷ []

abbrev pub run_numbers : List ℕ
run_numbers = 3 ∷ 4 ∷ 5 ∷ 7 ∷ 8 ∷ []

-- 02, 'Longer run records': '14, first of all'; 'moving checks fields and zeros as a job does (1, 5, 2); 36 with the record, after its 2',
-- which is the way back's alone
abbrev pub forward_numbers : List ℕ
forward_numbers = 14 ∷ 1 ∷ 5 ∷ 2 ∷ []

abbrev pub back_numbers : List ℕ
back_numbers = 14 ∷ 1 ∷ 5 ∷ 2 ∷ 36 ∷ []

-- 'A water draw drops 14, 22, 4 ..; more or fewer passes than 3 to 20 is 1, found after the records', and so is
-- 02's count of passes for round trips; its passes or round trips alone; one fill
abbrev pub draw_numbers : List ℕ
draw_numbers = 1 ∷ 3 ∷ 5 ∷ 2 ∷ 6 ∷ 9 ∷ []

abbrev pub passes_numbers : List ℕ
passes_numbers = 1 ∷ 3 ∷ 5 ∷ 2 ∷ 6 ∷ []

abbrev pub fill_numbers : List ℕ
fill_numbers = 1 ∷ 3 ∷ 5 ∷ 2 ∷ []

-- 'A ticket: 10, 11.' A live reading: 12, 13. 'tenths or psi out of range are 13'
abbrev pub ticket_numbers : List ℕ
ticket_numbers = 10 ∷ 11 ∷ []

abbrev pub live_numbers : List ℕ
live_numbers = 12 ∷ 13 ∷ []

-- 02, 'Smart transmitters': 'the first channel's 34, 35, 12, 13, then the second's'
abbrev pub channel_numbers : List ℕ
channel_numbers = 34 ∷ 35 ∷ 12 ∷ 13 ∷ []

abbrev pub panel_numbers : List ℕ
panel_numbers = 13 ∷ []

-- 02, 'Look up compressibility': '1 for length, 32 for a faulty or disordered record with its place, 13 for the asked numbers, 33 for no such
-- pair, in that order'
abbrev pub look_up_numbers : List ℕ
look_up_numbers = 1 ∷ 32 ∷ 13 ∷ 33 ∷ []

-- 'A book call, lowest number first: a request 20 to 25; a withdrawal 20, 21, 22, 26; a take 20, 27.'
abbrev pub request_numbers : List ℕ
request_numbers = 20 ∷ 21 ∷ 22 ∷ 23 ∷ 24 ∷ 25 ∷ []

abbrev pub withdrawal_numbers : List ℕ
withdrawal_numbers = 20 ∷ 21 ∷ 22 ∷ 26 ∷ []

abbrev pub take_numbers : List ℕ
take_numbers = 20 ∷ 27 ∷ []

-- 02, 'Places by agreement': '30 for setting a book that isn't empty, 31 for figures outside the rules, after 20'; the commons are told of
-- any sound book
abbrev pub agreement_numbers : List ℕ
agreement_numbers = 20 ∷ 30 ∷ 31 ∷ []

abbrev pub commons_numbers : List ℕ
commons_numbers = 20 ∷ []

-- 'A report read: 14, 15. The report writer alone, which takes number, runs, first run and five factors: 14, 22, 15.'
abbrev pub read_numbers : List ℕ
read_numbers = 14 ∷ 15 ∷ []

abbrev pub write_numbers : List ℕ
write_numbers = 14 ∷ 22 ∷ 15 ∷ []
