mod GivenBack
