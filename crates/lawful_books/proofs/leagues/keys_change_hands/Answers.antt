use Rattle.lawful_books.proofs.Keys.{keys_change_hands}
use Rattle.lawful_books.proofs.leagues.keys_change_hands.Goals as goal

pub returns : goal.returns
returns c = keys_change_hands
