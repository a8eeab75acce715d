mod Outside
