-- One outcome (OneOutcome.antt) for the functions of the line program's grammar: the answer, and the bytes left in what was lent to be written.
use Rattle.promises.specs.GrammarOutcome.{GrammarOutcome}
use Rattle.promises.proofs.OneOutcome.{same}

pub grammar_outcome : GrammarOutcome
grammar_outcome =
    record {
      words_word_one = (λ _ _. tt, λ _ _ _ _ _ _. same);
      words_count_words_one = (λ _ _. tt, λ _ _ _ _ _ _. same);
      words_write_text_one = (λ _ _. tt, λ _ _ _ _ _ _ p p'. same p.0 p'.0);
      words_write_text_left = λ _ _ _ _ _ _ p p'. same p.1 p'.1;
      numerals_read_number_one = (λ _ _. tt, λ _ _ _ _ _ _. same);
      numerals_read_signed_one = (λ _ _. tt, λ _ _ _ _ _ _. same);
      numerals_write_number_one = (λ _ _. tt, λ _ _ _ _ _ _ p p'. same p.0 p'.0);
      numerals_write_number_left = λ _ _ _ _ _ _ p p'. same p.1 p'.1;
      numerals_write_signed_one = (λ _ _. tt, λ _ _ _ _ _ _ p p'. same p.0 p'.0);
      numerals_write_signed_left = λ _ _ _ _ _ _ p p'. same p.1 p'.1;
      hex_are_bytes_one = (λ _ _. tt, λ _ _ _ _ _ _. same);
      hex_read_bytes_one = (λ _ _. tt, λ _ _ _ _ _ _ p p'. same p.1.0 p'.1.0);
      hex_read_bytes_left = λ _ _ _ _ _ _ p p'. same p.1.1 p'.1.1;
      hex_is_single_one = (λ _ _. tt, λ _ _ _ _ _ _. same);
      hex_read_single_one = (λ _ _. tt, λ _ _ _ _ _ _. same);
      hex_write_bytes_one = (λ _ _. tt, λ _ _ _ _ _ _ p p'. same p.0 p'.0);
      hex_write_bytes_left = λ _ _ _ _ _ _ p p'. same p.1 p'.1;
      lines_has_form_one = (λ _ _. tt, λ _ _ _ _ _ _. same);
      lines_number_at_one = (λ _ _. tt, λ _ _ _ _ _ _. same);
      lines_add_numbers_one = (λ _ _. tt, λ _ _ _ _ _ _ p p'. same p.0 p'.0);
      lines_add_numbers_left = λ _ _ _ _ _ _ p p'. same p.1 p'.1;
      lines_add_bytes_one = (λ _ _. tt, λ _ _ _ _ _ _ p p'. same p.0 p'.0);
      lines_add_bytes_left = λ _ _ _ _ _ _ p p'. same p.1 p'.1;
      lines_say_ok_one = (λ _ _. tt, λ _ _ _ _ _ _ p p'. same p.0 p'.0);
      lines_say_ok_left = λ _ _ _ _ _ _ p p'. same p.1 p'.1;
      lines_refuse_one = (λ _ _. tt, λ _ _ _ _ _ _ p p'. same p.0 p'.0);
      lines_refuse_left = λ _ _ _ _ _ _ p p'. same p.1 p'.1;
    }
