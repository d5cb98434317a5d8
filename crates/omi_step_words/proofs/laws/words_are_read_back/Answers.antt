use Rattle.omi_step_words.proofs.ReadBack.{functions_back, generations_back, places_back, taken_up}
use Rattle.omi_step_words.proofs.laws.words_are_read_back.Goals as goal

pub returns : goal.returns
returns c = record { places = places_back; functions = functions_back; generations = generations_back; taken = taken_up }
