-- One outcome for each public function of the line program's grammar.
use Rattle.words.proofs.word.Reads as words-word
use Rattle.words.proofs.count_words.Reads as words-count-words
use Rattle.words.proofs.write_text.Reads as words-write-text
use Rattle.numerals.proofs.read_number.Reads as numerals-read-number
use Rattle.numerals.proofs.read_signed.Reads as numerals-read-signed
use Rattle.numerals.proofs.write_number.Reads as numerals-write-number
use Rattle.numerals.proofs.write_signed.Reads as numerals-write-signed
use Rattle.hex_words.proofs.are_bytes.Reads as hex-are-bytes
use Rattle.hex_words.proofs.read_bytes.Reads as hex-read-bytes
use Rattle.hex_words.proofs.is_single.Reads as hex-is-single
use Rattle.hex_words.proofs.read_single.Reads as hex-read-single
use Rattle.hex_words.proofs.write_bytes.Reads as hex-write-bytes
use Rattle.lines.proofs.operands.has_form.Reads as lines-has-form
use Rattle.lines.proofs.operands.number_at.Reads as lines-number-at
use Rattle.lines.proofs.answers.add_numbers.Reads as lines-add-numbers
use Rattle.lines.proofs.answers.add_bytes.Reads as lines-add-bytes
use Rattle.lines.proofs.answers.say_ok.Reads as lines-say-ok
use Rattle.lines.proofs.answers.refuse.Reads as lines-refuse
use Rattle.promises.specs.Arguments.{second}
use Rattle.promises.specs.Outcome.{OneAnswer, OneRead, OneLeft}

pub record GrammarOutcome : Type 0 where
  -- the word, by the bytes in it
  pub words_word_one : OneRead words-word.Pre words-word.Post (λ κ r. r.now)
  pub words_count_words_one : OneAnswer words-count-words.Pre words-count-words.Post
  pub words_write_text_one : OneAnswer words-write-text.Pre words-write-text.Post
  pub words_write_text_left : OneLeft words-write-text.Post (λ κ x. (second x).now)
  pub numerals_read_number_one : OneAnswer numerals-read-number.Pre numerals-read-number.Post
  pub numerals_read_signed_one : OneAnswer numerals-read-signed.Pre numerals-read-signed.Post
  pub numerals_write_number_one : OneAnswer numerals-write-number.Pre numerals-write-number.Post
  pub numerals_write_number_left : OneLeft numerals-write-number.Post (λ κ x. (second x).now)
  pub numerals_write_signed_one : OneAnswer numerals-write-signed.Pre numerals-write-signed.Post
  pub numerals_write_signed_left : OneLeft numerals-write-signed.Post (λ κ x. (second x).now)
  pub hex_are_bytes_one : OneAnswer hex-are-bytes.Pre hex-are-bytes.Post
  pub hex_read_bytes_one : OneAnswer hex-read-bytes.Pre hex-read-bytes.Post
  pub hex_read_bytes_left : OneLeft hex-read-bytes.Post (λ κ x. (second x).now)
  pub hex_is_single_one : OneAnswer hex-is-single.Pre hex-is-single.Post
  pub hex_read_single_one : OneAnswer hex-read-single.Pre hex-read-single.Post
  pub hex_write_bytes_one : OneAnswer hex-write-bytes.Pre hex-write-bytes.Post
  pub hex_write_bytes_left : OneLeft hex-write-bytes.Post (λ κ x. (second x).now)
  pub lines_has_form_one : OneAnswer lines-has-form.Pre lines-has-form.Post
  pub lines_number_at_one : OneAnswer lines-number-at.Pre lines-number-at.Post
  pub lines_add_numbers_one : OneAnswer lines-add-numbers.Pre lines-add-numbers.Post
  pub lines_add_numbers_left : OneLeft lines-add-numbers.Post (λ κ x. (second x).now)
  pub lines_add_bytes_one : OneAnswer lines-add-bytes.Pre lines-add-bytes.Post
  pub lines_add_bytes_left : OneLeft lines-add-bytes.Post (λ κ x. (second x).now)
  pub lines_say_ok_one : OneAnswer lines-say-ok.Pre lines-say-ok.Post
  pub lines_say_ok_left : OneLeft lines-say-ok.Post (λ κ x. (second x).now)
  pub lines_refuse_one : OneAnswer lines-refuse.Pre lines-refuse.Post
  pub lines_refuse_left : OneLeft lines-refuse.Post (λ κ x. (second x).now)
